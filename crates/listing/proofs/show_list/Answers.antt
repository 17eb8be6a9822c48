-- What is listed can be printed, since the session was tested and the list is whole.
use lib.Seq.{length-take-le}
use Rattle.std.proofs.Common.{sym}
use Rattle.listing.proofs.Fits.{listing_room, listing_head, listing_fits, listing_in_use, first_in_use}
use Rattle.listing.proofs.show_list.Goals as goal

pub head_of-requires : goal.head_of-requires
head_of-requires g c = listing_room _ _ _ c.list.ensures c.in-Ok.is

pub slice_bounds-numbers-end : goal.slice_bounds-numbers-end
slice_bounds-numbers-end g c = listing_fits _ _ _ c.list.ensures c.in-Ok.is

pub slice_bounds-print_list-end : goal.slice_bounds-print_list-end
slice_bounds-print_list-end g c = sym (length-take-le _ _ (listing_fits _ _ _ c.list.ensures c.in-Ok.is))

pub print_list-requires-clause-head_in : goal.print_list-requires-clause-head_in
print_list-requires-clause-head_in g c = rw c.head_of.ensures (listing_head _ _ _ c.list.ensures c.in-Ok.is)

pub print_list-requires-clause-by_index : goal.print_list-requires-clause-by_index
print_list-requires-clause-by_index g c =
    first_in_use _ _ c.head_of.ensures (listing_fits _ _ _ c.list.ensures c.in-Ok.is) (listing_in_use _ _ _ c.list.ensures c.in-Ok.is)
