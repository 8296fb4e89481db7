-- The whole bytes of bits that go on.
use Rattle.std.proofs.Common.{arith, ◌≡◌, ◌+◌, ◌*◌, ◌/◌, ◌<◌, Bool, List, ◌++◌, length, drop, ap, sym, ◌∙◌, append-nil, length-append, length-drop, take-append-drop}
use Rattle.rice_stream.proofs.Words.{drop-append-add, length-take-le, whole_short, whole-append, whole_bytes, bits_in_bytes, whole_part}

-- the part of whole bytes has eight bits for each byte that is full
pub length-part : (a : List Bool) → length (whole_part a) ≡ 8 * (length a / 8)
length-part a = length-take-le (bits_in_bytes (length a)) a (omega arith)

-- the part of whole bytes has the same bytes
pub part_bytes : (a : List Bool) → whole_bytes (whole_part a) ≡ whole_bytes a
part_bytes a =
    let n = bits_in_bytes (length a) in
    let short : length (drop n a) < 8 = omega (arith, length-drop n a) in
    sym (append-nil (whole_bytes (whole_part a))) ∙ ap (λ l. whole_bytes (whole_part a) ++ l) (sym (whole_short (drop n a) short))
    ∙ sym (whole-append (length a / 8) (whole_part a) (drop n a) (length-part a)) ∙ ap whole_bytes (take-append-drop n a)

-- bits that go on from the part of whole bytes: their bytes
pub more_bytes : (a b sink : List Bool) → whole_part a ++ sink ≡ b → whole_bytes b ≡ whole_bytes a ++ whole_bytes sink
more_bytes a b sink e =
    ap whole_bytes (sym e) ∙ whole-append (length a / 8) (whole_part a) sink (length-part a) ∙ ap (λ l. l ++ whole_bytes sink) (part_bytes a)

-- and the bits after them
pub more_rest : (a b sink : List Bool) → whole_part a ++ sink ≡ b → drop (bits_in_bytes (length sink)) sink ≡ drop (bits_in_bytes (length b)) b
more_rest a b sink e =
    let p = whole_part a in
    let n : length b ≡ length p + length sink = ap length (sym e) ∙ length-append p sink in
    let k : length p + bits_in_bytes (length sink) ≡ bits_in_bytes (length b) = omega (arith, n, length-part a) in
    sym (drop-append-add p sink (bits_in_bytes (length sink))) ∙ ap (λ l. drop (length p + bits_in_bytes (length sink)) l) e ∙ ap (λ i. drop i b) k
