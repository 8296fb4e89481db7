-- Bytes in the buffer of an input.
use Rattle.std.proofs.Common.{◌≡◌, ℕ, ◌+◌, ◌-◌, ◌≤◌, List, ◌++◌, length, take, drop, ap, arith, sym, ◌∙◌, length-drop}
use Rattle.rice_stream.proofs.Words.{copy_within, drop-take, length-take-le, take-append-le, take-paste, take-append-add, take_all}
use borrow.Rule.Slice.PartMut.{put_mid, post_of}

-- after the bytes that are buffered stand those that were read
pub front_is : (w n k : ℕ) (old buf : List ℕ) → w ≤ length old → n ≤ length buf → take (w + n) (put_mid w k old buf) ≡ take w old ++ take n buf
front_is w n k old buf h few =
    ap (λ m. take (m + n) (put_mid w k old buf)) (sym (length-take-le w old h)) ∙ take-append-add (take w old) (buf ++ post_of w k old) n
    ∙ ap (λ l. take w old ++ l) (take-append-le n buf (post_of w k old) few)

-- and those stay
pub front_stays : (w k : ℕ) (old buf : List ℕ) → w ≤ length old → take w (put_mid w k old buf) ≡ take w old
front_stays w k old buf h =
    take-append-le w (take w old) (buf ++ post_of w k old) (omega (arith, length-take-le w old h)) ∙ take_all w (take w old) (omega (arith, length-take-le w old h))

-- the bytes that are buffered are moved to the front
pub front_is_carried : (filled buffered : ℕ) (old new : List ℕ) → new ≡ copy_within old (filled - buffered) filled 0 → buffered ≤ filled → filled ≤ length old
    → take buffered new ≡ drop (filled - buffered) (take filled old)
front_is_carried filled buffered old new e h within =
    let i = filled - buffered in
    let n : 0 + (filled - i) ≡ buffered = omega arith in
    let few : filled - i ≤ length (drop i old) = omega (arith, length-drop i old) in
    let end : i + (filled - i) ≡ filled = omega arith in
    ap (take buffered) e ∙ ap (λ m. take m (copy_within old i filled 0)) (sym n) ∙ take-paste old 0 (drop i old) (filled - i) (omega arith) few
    ∙ sym (drop-take i (filled - i) old) ∙ ap (λ m. drop i (take m old)) end
