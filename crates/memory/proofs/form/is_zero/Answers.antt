-- `memory::form::is_zero` meets its contract: the closure tests a byte.
use Rattle.std.proofs.Common.{rules, tests, arith, ◌≡◌, ◌+◌, ◌-◌}
use mathlib.Core.Logic.{◌≢◌}
use Rattle.std.proofs.lemmas.Iterator.{cases_from_all, YieldsList-from_slice}
use Rattle.shapes.proofs.Ranges.{zeros_part}
use Rattle.memory.proofs.form.is_zero.Goals as goal

pub returns : goal.returns
returns c = let e : c.args.at + c.args.count - c.args.at ≡ c.args.count = omega arith in zeros_part _ _ _ _ _ (rw e) (search rules) (cases_from_all _ _ _ (λ x. x ≡ 0) (λ x. x ≢ 0) c.all.ensures.ran (YieldsList-from_slice _ c.iter.ensures.rest) (λ x q k. search (rules, tests)) (λ x q k. search (rules, tests)))
