-- The promises: begin here. They speak of bytes: a board b, a record r, an answer buffer a.
--
-- A promise is a name, a colon and a sentence. The lines that repeat the name are its proof, which no reader needs: the
-- toolchain has checked it. The sentences are read aloud like this:
--
--     (b r a : List ℕ) →    for any board, record and answer buffer,
--     step_of b r a         the result of one call on them: its .code, and the board (.bytes) and the .answer after it
--     x.f                  the f of x
--     x ≡ y                 x is y
--     P → Q                 if P, then Q
--     P → ⊥                 not P
--     P × Q, P ⊎ Q          P and Q, P or Q
--     P ↔ Q                 P exactly if Q
--     λ i. P                the property P of an i
--     All P xs              P holds of everything in the list xs
--     Some P xs             P holds of something in the list xs
--     Lasting Ends P xs     P holds of every item of xs that no later item of xs has ended
--
-- So `(b r a : List ℕ) → 9 ≤ (step_of b r a).code → (step_of b r a).bytes ≡ b` (Demand1) says: for any board, record and answer buffer,
-- if the code of the call is 9 or more, then the board after it is the board before it.
--
-- The definitions that the promises use stand in specs/. Here are first the promises, then laws, which only provers need.
pub mod Demand1
pub mod Demand3
pub mod Kept
pub mod Lived
pub mod Above
pub mod Counts
pub mod Unique
pub mod Reading
pub mod RefusalLaws
pub mod AcceptLaws
pub mod CaseLaws
pub mod TurnLaws
pub mod LifeLaws
pub mod AskedLaws
pub mod ToldLaws
pub mod TakenLaws
pub mod RelyLaws
pub mod AboveLaws
pub mod OwnLaws
