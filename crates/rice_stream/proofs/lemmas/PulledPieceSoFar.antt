-- A piece that is decoded: the blocks so far, one more, and where it ends.
use Rattle.std.proofs.Common.{◌≡◌, ℕ, ◌+◌, ◌*◌, ◌%◌, ◌<◌, ◌≤◌, Bool, List, [], ◌∷◌, ◌++◌, length, length-drop, take}
use Rattle.std.proofs.Common.{drop, refl, ap, arith, sym, ◌∙◌, subst, append_assoc, append-nil, length-append, None, Some, ℤ, ◌≢◌, ◌-◌}
use Rattle.rice_stream.proofs.Words.{take-append_seam, drop-append-drop, Reader, Stops, Takes, new_reader, BitFault, length-bits_of, length-word, Parameters, width, spellings, EndsWith, Ended}
use Rattle.rice_stream.proofs.Words.{CodeFault, ◌^◌, Err, length-spellings, spellings-append, bits_of, word, Origin, IsStand, DecodesMore, GivesNext, HasRoomForBlock, PausesAt, TakesNext, ahead}
use Rattle.rice_stream.proofs.Words.{bits_ahead, pause_for, Pause, Stand, nil_from_length, drop-append_seam}
use Rattle.rice_bits.specs.declared.read.fault.BitFault.TheVariants as bit_faults
use Rattle.rice_stream.proofs.lemmas.PullingLemmas.{all_refilled, refills_ahead}
use Rattle.rice_code.specs.declared.decode.call_results.CodeFault.TheVariants as faults
use Rattle.rice_stream.specs.declared.stand.Pause.TheVariants as pauses

-- Blocks of a piece were given, and their samples stand in the first `at` bytes.
pub record PulledSoFar (s : Parameters) (o : Origin) (front : List Bool) (given : List ℤ) (piece : List ℕ) (old : Stand) (out_old out : List ℕ) (here : Stand)
    (rest : List Bool) (at : ℕ) : Type 0 where
  pub bits : List Bool
  pub samples : List ℤ
  pub parts : bits_ahead old piece ≡ bits ++ rest
  pub stands : IsStand s o here (front ++ bits) (given ++ samples)
  pub writes : out ≡ spellings s samples ++ drop at out_old
  pub count : at ≡ width s * length samples

-- before the first block nothing was pulled
pub none_so_far : {s : Parameters} {o : Origin} {front : List Bool} {given : List ℤ} (piece : List ℕ) {old : Stand} (out : List ℕ) {rest : List Bool}
    → IsStand s o old front given → rest ≡ bits_ahead old piece → PulledSoFar s o front given piece old out out old rest 0
none_so_far {s} {o} {front} {given} piece {old} out h e = record {
  bits = [];
  samples = [];
  parts = sym e;
  stands = subst (λ (l : List Bool). IsStand s o old l (given ++ [])) (sym (append-nil front)) (subst (λ (l : List ℤ). IsStand s o old front l) (sym (append-nil given)) h);
  writes = refl;
  count = omega arith;
}

-- blocks more
pub more_so_far : {I : Type 0} {s : Parameters} {o : Origin} {front : List Bool} {given xs : List ℤ} {piece : List ℕ} {old here next : Stand}
    {out_old out out_new : List ℕ} {r new : Reader I} {at n : ℕ} → (so : PulledSoFar s o front given piece old out_old out here (ahead r) at)
    → GivesNext s o (front ++ so.bits) (given ++ so.samples) next r new xs → n ≡ width s * length xs
    → out_new ≡ take at out ++ (spellings s xs ++ drop (at + n) out) → PulledSoFar s o front given piece old out_old out_new next (ahead new) (at + n)
more_so_far {s} {o} {front} {given} {xs} {next} {out_old} {out} {new} {at} {n} so g e wrote =
    let a = spellings s so.samples in
    let size : at ≡ length a = so.count ∙ sym (length-spellings s so.samples) in
    let first : take at out ≡ a = (λ i. take (size i) (so.writes i)) ∙ take-append_seam a (drop at out_old) in
    let rest : drop (at + n) out ≡ drop (at + n) out_old = ap (drop (at + n)) so.writes ∙ drop-append-drop at out_old a (at + n) (omega arith) (sym size) in
    record {
      bits = so.bits ++ g.bits;
      samples = so.samples ++ xs;
      parts = so.parts ∙ ap (λ l. so.bits ++ l) g.split ∙ sym (append_assoc so.bits g.bits (ahead new));
      stands = subst (λ (l : List Bool). IsStand s o next l (given ++ (so.samples ++ xs))) (append_assoc front so.bits g.bits)
          (subst (λ (l : List ℤ). IsStand s o next ((front ++ so.bits) ++ g.bits) l) (append_assoc given so.samples xs) g.stands);
      writes = wrote ∙ (λ i. first i ++ (spellings s xs ++ rest i)) ∙ sym (append_assoc a (spellings s xs) (drop (at + n) out_old))
          ∙ ap (λ l. l ++ drop (at + n) out_old) (sym (spellings-append s so.samples xs));
      count = sizes (width s) (length so.samples) (length xs) at n so.count e ∙ ap (λ m. width s * m) (sym (length-append so.samples xs));
    }
  where
    sizes : (w k m at n : ℕ) → at ≡ w * k → n ≡ w * m → at + n ≡ w * (k + m)
    sizes w k m at n e f = omega arith

-- the call ends
pub ends_so : {s : Parameters} {o : Origin} {front : List Bool} {given : List ℤ} {piece : List ℕ} {old : Stand} {out_old out : List ℕ} {here : Stand}
    {rest : List Bool} {at : ℕ} (pause : Pause) → (so : PulledSoFar s o front given piece old out_old out here rest at)
    → PausesAt s old piece (length out_old) here rest (length so.samples) pause → (pause ≢ pauses.TooLong → old.bits + 8 * length piece ≤ 2 ^ 52)
    → DecodesMore s o front given piece old out_old out here pause
ends_so {s = s} {out_old = out_old} {rest = rest} pause so pauses_at limit = record {
  bits = so.bits;
  rest = rest;
  samples = so.samples;
  parts = so.parts;
  stands = so.stands;
  writes = so.writes ∙ ap (λ n. spellings s so.samples ++ drop n out_old) so.count;
  pauses_at = pauses_at;
  limit = limit;
}

-- the piece is too long
pub refuses_piece : (s : Parameters) (o : Origin) (front : List Bool) (given : List ℤ) (piece : List ℕ) (old : Stand) (out : List ℕ)
    → IsStand s o old front given → 2 ^ 52 < old.bits + 8 * length piece → DecodesMore s o front given piece old out out old pauses.TooLong
unfolding none_so_far
refuses_piece s o front given piece old out h passes =
    ends_so pauses.TooLong (none_so_far piece out h refl) (record { passes = passes; stays = refl; none = refl }) (λ no. absurd (no refl))

-- nothing is left of no bytes
pub nothing_ahead : (s : Parameters) (old : Stand) (b : ℕ) (piece : List ℕ) (bits rest : List Bool) → length piece ≡ 0 → bits_ahead old piece ≡ bits ++ rest
    → EndsWith s None b rest Ended (length rest)
nothing_ahead s old b piece bits rest none parts = empty rest (omega (arith, ap length parts, length-append bits rest, length-drop (old.bits % 8) (bits_of piece), length-bits_of piece, none))
  where
    empty : (rest : List Bool) → length rest ≡ 0 → EndsWith s None b rest Ended (length rest)
    empty [] e = (tt, λ k d lt. absurd (omega arith), refl)
    empty (x ∷ xs) e = absurd (omega arith)

-- the decoder refuses
pub refused_so : {I : Type 0} {s : Parameters} {o : Origin} {front : List Bool} {given : List ℤ} {piece : List ℕ} {old : Stand} {out_old out : List ℕ}
    {here : Stand} {at : ℕ} (xs : List ℤ) (r new : Reader I) (fault : CodeFault) → (so : PulledSoFar s o front given piece old out_old out here (ahead r) at)
    → HasRoomForBlock s (length so.samples) (length out_old) → TakesNext s o (front ++ so.bits) (given ++ so.samples) here r new xs (Err fault)
    → (fault ≡ faults.Read → ⊥) → old.bits + 8 * length piece ≤ 2 ^ 52 → DecodesMore s o front given piece old out_old out here (pause_for fault)
refused_so xs r new faults.CodeEnds so room t read limit = ends_so pauses.Cut so (room, t.0, t.1) (λ no. limit)
refused_so xs r new faults.RunPastSegment so room t read limit = ends_so pauses.RunPastSegment so (room, t.0, t.1, t.2) (λ no. limit)
refused_so xs r new faults.ResidualTooLarge so room t read limit = ends_so pauses.ResidualTooLarge so (room, t.0, t.1, t.2) (λ no. limit)
refused_so xs r new faults.Read so room t read limit = absurd (read refl)
refused_so xs r new faults.TooLong so room t read limit = absurd t

-- there is room for another block
pub has_room : (s : Parameters) {at len len_old : ℕ} (k : ℕ) {w j : ℕ} → w ≡ width s → j ≡ s.block → w * j ≤ len - at → at ≤ len → at ≡ width s * k → len ≡ len_old → HasRoomForBlock s k len_old
has_room s k {w} {j} e f le within count same = let size : w * j ≡ width s * s.block = (λ i. e i * f i) in omega arith

-- there is none
pub has_none : (s : Parameters) {at len len_old : ℕ} (k : ℕ) {w j : ℕ} → w ≡ width s → j ≡ s.block → len - at < w * j → at ≤ len → at ≡ width s * k → len ≡ len_old
    → (width s * k ≤ len_old) × (len_old < width s * k + width s * s.block)
has_none s k {w} {j} e f lt within count same = let size : w * j ≡ width s * s.block = (λ i. e i * f i) in (omega arith, omega arith)

-- nothing more is taken, for this fault
pub record RefusedBy {I : Type 0} (why : CodeFault) (s : Parameters) (o : Origin) (front : List Bool) (given : List ℤ) (here : Stand) (r new : Reader I) (xs : List ℤ) (fault : CodeFault) : Type 0
  where
    pub fault_is : fault ≡ why
    pub takes : TakesNext s o front given here r new xs (Err fault)

-- where the decoder refuses, the intake has failed only if the fault says so
pub failed_once : {I : Type 0} (s : Parameters) (o : Origin) (front : List Bool) (given : List ℤ) (here : Stand) (r new : Reader I) (xs : List ℤ)
    {fault : CodeFault} → RefusedBy faults.Read s o front given here r new xs fault → new.failed ≡ 1
failed_once s o front given here r new xs refused = subst (λ (f : CodeFault). TakesNext s o front given here r new xs (Err f)) refused.fault_is refused.takes

-- a reader of a piece within the limit never passes it
pub never_too_long : {I : Type 0} (s : Parameters) (o : Origin) (front : List Bool) (given : List ℤ) (here : Stand) (r new : Reader I) (xs : List ℤ)
    {fault : CodeFault} → RefusedBy faults.TooLong s o front given here r new xs fault → ⊥
never_too_long s o front given here r new xs refused = subst (λ (f : CodeFault). TakesNext s o front given here r new xs (Err f)) refused.fault_is refused.takes

-- ---- a reader of a piece

-- a piece without bytes has the same bits, which are none, when some are skipped
pub nothing_skipped : (k : ℕ) (piece : List ℕ) → length piece ≡ 0 → bits_of piece ≡ drop k (bits_of piece)
nothing_skipped k piece e = nil_from_length (bits_of piece) (omega (arith, length-bits_of piece))
    ∙ sym (nil_from_length (drop k (bits_of piece)) (omega (arith, length-drop k (bits_of piece), length-bits_of piece)))

-- the bits of the first byte that were taken before are skipped
pub skipped_bits : {I : Type 0} (intake : I) (piece : List ℕ) (k v : ℕ) (new : Reader I) → Takes (new_reader intake (Some piece) 0) new (word k v) → ahead new ≡ drop k (bits_of piece)
skipped_bits intake piece k v new takes =
    let refilled = refills_ahead (Some piece) new.left [] new.buffered (word k v) refl takes.refills in
    sym (ap (λ n. drop n (bits_of piece)) (sym (length-word k v)) ∙ ap (drop (length (word k v))) refilled.1 ∙ drop-append_seam (word k v) (ahead new))

-- a piece that has bytes has so few bits more
pub never_refused : {I : Type 0} (intake : I) (piece : List ℕ) {k : ℕ} {bits : List Bool} {new : Reader I} (fault : BitFault) → k < 8 → length bits < k
    → length piece ≢ 0 → new.failed ≡ 0 → Stops (new_reader intake (Some piece) 0) new bits fault → ⊥
never_refused intake piece {bits} {new} (bit_faults.End reported) lt few some none stops =
    let all = all_refilled (Some piece) stops.middle new.left [] bits refl stops.refills stops.refuses.0 stops.refuses.1 in
    omega (arith, ap length all, length-bits_of piece, some)
never_refused intake piece bit_faults.Read lt few some none stops = omega (arith, stops.refuses.1, none)
never_refused intake piece bit_faults.TooLong lt few some none stops = omega (arith, stops.refuses.2, stops.taken)
