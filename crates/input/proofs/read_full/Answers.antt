-- A read puts what it takes after what was read before.
use Rattle.std.proofs.Common.{◌≡◌, ℕ, ◌+◌, ◌≤◌, List, ◌++◌, length, take, ap, sym, ◌∙◌, subst, rules, ◌-◌, length-take-le}
use Rattle.std.proofs.Math.Seq.{take-append-add}
use Rattle.std.proofs.lemmas.List.{take-append-le}
use Rattle.std.proofs.KnownBytes.{Consumes-trans}
use Rattle.std.specs.Io.KnownBytes.{Consumes}
use borrow.Rule.Slice.PartMut.{put_mid, post_of}
use Rattle.input.proofs.read_full.Goals as goal

-- the first bytes of a list whose middle is overwritten by bytes of which `more` count
take_more : (count width more : ℕ) (room bytes : List ℕ) → count ≤ length room → more ≤ length bytes
    → take (count + more) (put_mid count width room bytes) ≡ take count room ++ take more bytes
take_more count width more room bytes within fits =
    let after = post_of count width room in
    ap (λ n. take (n + more) (put_mid count width room bytes)) (sym (length-take-le count room within))
    ∙ take-append-add (take count room) (bytes ++ after) more
    ∙ ap (λ l. take count room ++ l) (take-append-le more bytes after fits)

pub loop-count-preserved : goal.loop-count-preserved
loop-count-preserved g c =
    let count = c.loop-count.count in
    let width = length c.loop-count.room - count in
    let joined = take_more count width c.in_ok-more.more c.loop-count.room c.read.new.buf c.loop-count.invariant.0 c.in_ok-more.ensures.bound.0 in
    (search rules, subst (Consumes _ _) (sym joined) (Consumes-trans _ _ _ _ _ c.loop-count.invariant.1 c.in_ok-more.ensures.bytes.0))
