-- `memory::form::are_places` meets its contract: the closure tests a place.
use Rattle.std.proofs.Common.{rules, tests}
use Rattle.shapes.proofs.Ranges.{all_range}
use Rattle.memory.specs.Layout.{places_most}
use Rattle.memory.specs.Form.{good_place}
use Rattle.memory.proofs.form.are_places.Goals as goal

pub returns : goal.returns
returns c = all_range (good_place c.args.session.now) places_most _ _ _ c.all.ensures.ran (λ x b q k. search (rules, tests))
