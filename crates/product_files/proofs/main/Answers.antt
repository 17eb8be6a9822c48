-- The bytes that each call answers are within the buffer.
use Rattle.product.proofs.BuiltIn.{built_in_fits}
use Rattle.product_files.proofs.main.Goals as goal

pub show-requires : goal.show-requires
show-requires c bytes done = built_in_fits _ _ c.five_litre.ensures done

pub show-requires-2 : goal.show-requires-2
show-requires-2 c bytes done = built_in_fits _ _ c.eight_litre.ensures done
