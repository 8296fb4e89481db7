-- Blocks of which a decoder gives the bytes.
use Rattle.std.proofs.Common.{◌≡◌, ◌≢◌, ℕ, ◌+◌, ◌-◌, ◌*◌, ◌<◌, ◌≤◌, ◌∙◌, List, ◌++◌, length, drop, take, ap, subst, sym, take-take, Option, Some, ℤ, refl, arith}
use Rattle.rice_stream.proofs.Words.{Ok, length-take-le, take-append-drop, take_at, mul-le-mul_left, Appends, Room, Reader, Parameters, IsLegal, width, spellings, length-spellings, spellings-append}
use Rattle.rice_stream.proofs.Words.{DecoderState, Block, AnswersBytes, DecodesBetween, Reports, wanted_of, DecodingProgress, TakesPart, Report, Fault, Write}
use Rattle.rice_stream.proofs.lemmas.DecodingLemmas.{gains_block, moves_of, samples_of_block}
use Rattle.rice_stream.proofs.lemmas.DecodingEnds.{most_wanted, progress_with_block, write_ends}

-- the bytes of the first samples are the first bytes
pub first_spelled : (s : Parameters) (n : ℕ) (samples : List ℤ) (bytes : List ℕ) → n ≤ length samples → take (width s * length samples) bytes ≡ spellings s samples
    → take (width s * n) bytes ≡ spellings s (take n samples)
first_spelled s n samples bytes few spelled =
    let front = take n samples in
    let len : length (spellings s front) ≡ width s * n = length-spellings s front ∙ ap (λ k. width s * k) (length-take-le n samples few) in
    let parts : spellings s samples ≡ spellings s front ++ spellings s (drop n samples) = ap (spellings s) (sym (take-append-drop n samples)) ∙ spellings-append s front (drop n samples) in
    sym (take-take (width s * n) (width s * length samples) bytes (mul-le-mul_left (width s) few)) ∙ ap (take (width s * n)) (spelled ∙ parts)
    ∙ take_at (spellings s front) (spellings s (drop n samples)) (width s * n) len

-- fewer samples of a run and bits are to come after a block
pub block_shrinks : {I : Type 0} {s : Parameters} {asked : Option ℕ} {start : Reader I} {out_old out : Option Room} {p q : DecoderState} {r new : Reader I} {steps steps_new written : ℕ}
    {bytes : List ℕ} → IsLegal s → DecodingProgress s asked start out_old out p r steps written → AnswersBytes r new steps steps_new p q bytes (Ok Block)
    → 456 * (4503599627370496 - new.taken) + q.run * q.setting.block < 456 * (4503599627370496 - r.taken) + p.run * p.setting.block
block_shrinks {s = s} legal runs says =
    let some : 2 ≤ s.block = grind (arith, legal.block) in
    let len = (samples_of_block s runs.at_block.setting runs.at_block.going says.advances).len in
    omega (arith, some, len, says.counted.forward, says.counted.limit, says.by_bits)

-- A block was given, and these bytes of its samples are written: those of the samples that are wanted.
module _ {I : Type 0} {s : Parameters} {asked : Option ℕ} {start : Reader I} {out_old out : Option Room} {p q : DecoderState} {r new : Reader I} {steps steps_new written : ℕ}
    {bytes : List ℕ} (legal : IsLegal s) (runs : DecodingProgress s asked start out_old out p r steps written) (says : AnswersBytes r new steps steps_new p q bytes (Ok Block))
    (count : ℕ) {size : ℕ} (is : count ≡ wanted_of asked written s.block) (some : count ≢ 0) (size_is : size ≡ width s * count) where
  block_len : length says.samples ≡ s.block
  block_len = (samples_of_block s runs.at_block.setting runs.at_block.going says.advances).len

  wanted_bytes : take size bytes ≡ spellings s (take count says.samples)
  wanted_bytes =
      let all = subst (λ (t : Parameters). take (width t * length says.samples) bytes ≡ spellings t says.samples) runs.at_block.setting (says.spelled refl) in
      ap (λ n. take n bytes) size_is ∙ first_spelled s count says.samples bytes (omega (arith, block_len, is, most_wanted asked written s.block)) all

  -- the outlet fails,
  pub block_fails : {out_new : Option Room} {rep : Report} {f : Option Fault} {left : Option (List ℕ)} {failed : ℕ} → TakesPart out out_new (take size bytes)
      → Reports rep f left failed new written steps_new (Some Write) → DecodesBetween s asked start.left left out_old out_new rep f
  block_fails {out_new} part tells = write_ends count q legal runs is (λ none. some (is ∙ none)) (gains_block legal runs says.advances) (subst (TakesPart out out_new) wanted_bytes part) tells

  -- or takes them
  pub block_written : {out_new : Option Room} {steps_next : ℕ} → Appends out out_new (take size bytes) → steps_next ≡ steps_new + count
      → DecodingProgress s asked start out_old out_new q new steps_next (written + count)
  block_written {out_new} put ticked =
      let at = runs.at_block in
      let old_run : p.run * p.setting.block ≡ p.run * s.block = ap (λ t. p.run * t.block) at.setting in
      let new_run : q.run * q.setting.block ≡ q.run * s.block = ap (λ t. q.run * t.block) (says.setting ∙ at.setting) in
      progress_with_block legal runs is (λ none. some (is ∙ none)) (gains_block legal runs says.advances) (moves_of at.going says.advances)
      (record { counted = says.counted; few = omega (arith, block_len, says.by_bits, old_run, new_run) }) ticked (subst (Appends out out_new) wanted_bytes put)
