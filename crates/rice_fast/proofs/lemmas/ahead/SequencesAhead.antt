-- Fundamental sequences that stand among bytes.
use Rattle.rice_fast.proofs.Words.{◌≡◌, ℕ, ◌-◌, ◌%◌, ◌≤◌, Bool, false, List, ◌++◌, length, take, drop, replicate, ◌∙◌, arith, Option, Some, None, IfSome, bits_of, word, AreBitsFrom, front-ahead}
use Rattle.rice_fast.proofs.Words.{BeginWithSequences, Sequences}
use Rattle.rice_fast.proofs.lemmas.ahead.BitsAhead.{first-from}

-- those at the front of a word that was loaded from there
pub sequences-from : {buffer : List ℕ} {at : ℕ} {bits : List Bool} (count r : ℕ) (found : Option Sequences) → AreBitsFrom buffer at bits → 64 ≤ length bits
    → word 64 r ≡ take (64 - at % 8) (drop at (bits_of buffer)) ++ replicate (at % 8) false
    → IfSome found (λ s. BeginWithSequences (word 64 r) count s.numbers s.len) → IfSome found (λ s. BeginWithSequences bits count s.numbers s.len)
sequences-from count r None h there loaded found = tt
sequences-from {buffer} {at} count r (Some s) h there loaded found =
    let m = at % 8 in
    let few = found.few in
    record {
      lanes = found.lanes;
      few = found.few;
      spelled = found.spelled ∙ (front-ahead (drop at (bits_of buffer)) s.len (64 - m) m r (omega (arith, few)) (omega arith) loaded
          ∙ first-from s.len h (omega (arith, there, few)));
    }
