-- Laws of the frame: a part that is split off the board and comes back, and a call on it.
use Rattle.std.specs.Prelude.{ℕ, ◌+◌, ◌*◌, Result, Ok, Err, List, ◌++◌, ◌≡◌, take, drop}
use Rattle.std.proofs.Common.{ap, drop-drop}
use Rattle.answer.specs.declared.Refusal.{Refusal}
use Rattle.desk.specs.Board.{part_at, with_part}
use Rattle.desk.specs.Step.{Effect, Stepped, stepped, on_part, Ends}

-- A board that is split before a part, with other bytes put in its place.
pub split_part : (b : List ℕ) (d : ℕ) (p : List ℕ) → take (64 + 768 * d) b ++ (p ++ drop 768 (drop (64 + 768 * d) b)) ≡ with_part b d p
split_part b d p = rw (drop-drop 768 (part_at d) b)

-- What a call on a part ends in, it ends in on the board too.
pub ends_part : (r : Result ℕ Refusal) (b : List ℕ) (d : ℕ) (p a : List ℕ) (t : Effect) → Ends r p a t →
    Ends r (with_part b d p) a (on_part b d t)
ends_part (Ok n) b d p a t h = ap (λ (s : Stepped). stepped s.code (with_part b d s.bytes) s.answer) h
ends_part (Err r) b d p a t h = ap (λ (e : Effect). on_part b d e) h
