-- How many bytes a pull writes, by the numbers of samples at the stands before and after it.
use Rattle.rice_calls.proofs.Words.{◌≡◌, ℕ, ◌+◌, ◌-◌, ◌*◌, ◌≤◌, Bool, List, length, length-append, ap, arith, ◌∙◌, ℤ, Parameters, width, Origin, IsStand, DecodesMore, PausesAt, Pause, Stand}
use Rattle.rice_stream.specs.declared.stand.Pause.TheVariants as pauses

-- what is written has room
written_fits : (s : Parameters) (old new : Stand) (piece : List ℕ) (room count : ℕ) (rest : List Bool) (pause : Pause) → PausesAt s old piece room new rest count pause → width s * count ≤ room
written_fits s old new piece room count rest pauses.Full at = at.0
written_fits s old new piece room count rest pauses.Blank at = let h : width s * count + width s * s.block ≤ room = at.0 in omega arith
written_fits s old new piece room count rest pauses.Cut at = let h : width s * count + width s * s.block ≤ room = at.0 in omega arith
written_fits s old new piece room count rest pauses.RunPastSegment at = let h : width s * count + width s * s.block ≤ room = at.0 in omega arith
written_fits s old new piece room count rest pauses.ResidualTooLarge at = let h : width s * count + width s * s.block ≤ room = at.0 in omega arith
written_fits s old new piece room count rest pauses.TooLong at = let e : width s * count ≡ 0 = ap (λ n. width s * n) at.none ∙ omega arith in omega arith

module _ (s : Parameters) (o : Origin) (front : List Bool) (given : List ℤ) (piece : List ℕ) (old new : Stand) (out_old out : List ℕ) (pause : Pause) where
  -- after a piece stand as many samples more as it gave
  pub more_samples : IsStand s o old front given → (d : DecodesMore s o front given piece old out_old out new pause) → new.samples ≡ old.samples + length d.samples
  more_samples h d = omega (arith, h.samples, d.stands.samples, length-append given d.samples)

  -- as many bytes are written
  pub bytes_written : (w : ℕ) → w ≡ width s → IsStand s o old front given → (d : DecodesMore s o front given piece old out_old out new pause)
      → w * (new.samples - old.samples) ≡ width s * length d.samples
  bytes_written w e h d = let n : new.samples - old.samples ≡ length d.samples = omega (arith, more_samples h d) in (λ i. e i * n i)

  -- the bytes of these samples fit the memory that they are written to
  pub bytes_fit : (w : ℕ) → w ≡ width s → IsStand s o old front given → DecodesMore s o front given piece old out_old out new pause → w * (new.samples - old.samples) ≤ length out_old
  bytes_fit w e h d = omega (arith, bytes_written w e h d, written_fits s old new piece (length out_old) (length d.samples) d.rest pause d.pauses_at)
