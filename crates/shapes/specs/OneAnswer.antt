-- What it means that a contract allows one answer only, said of the contract that the check generates.
use Rattle.std.specs.Prelude.{ℕ, ◌≡◌, List}
use contract.Lifetimes.{Lfts}
use borrow.Fn.Kinds.{ParamKind, ResultKind, Dens, Out, res_t, ended_of}
use denote.Triple.Clauses.{Lasts, at_exit}

-- two results, with what each leaves in the lent buffers, that the contract `Post` allows for the same arguments are equal
abbrev pub OneAnswer : {n : ℕ} (ps : List (ParamKind n)) (r : ResultKind n) → Out n ps r → Type 0
OneAnswer {n} ps r Post =
    (κs : Lfts n) (a : Dens κs ps) (z z' : (res_t r κs).Denot) (ws ws' : Lasts (ended_of n ps r) κs a)
    → Post κs a z (at_exit (ended_of n ps r) κs a ws) → Post κs a z' (at_exit (ended_of n ps r) κs a ws') → (z ≡ z') × (ws ≡ ws')

-- the same of a call that hands back a part of what was lent to it: what `read` says of the part is one, as is what is left in the lent
-- buffers. A reference also has a name in the proofs, which no program sees and any contract leaves open: so not of the whole reference
abbrev pub OneReading : {n : ℕ} {A : Type 0} (ps : List (ParamKind n)) (r : ResultKind n) → ((κs : Lfts n) → (res_t r κs).Denot → A) → Out n ps r → Type 0
OneReading {n} ps r read Post =
    (κs : Lfts n) (a : Dens κs ps) (z z' : (res_t r κs).Denot) (ws ws' : Lasts (ended_of n ps r) κs a)
    → Post κs a z (at_exit (ended_of n ps r) κs a ws) → Post κs a z' (at_exit (ended_of n ps r) κs a ws')
    → (read κs z ≡ read κs z') × (ws ≡ ws')
