use Rattle.std.proofs.Common.{◌∙◌, ap, ◌++◌, drop, length}
use Rattle.std.proofs.lemmas.List.{take-append-drop}
use Rattle.rice_bits.{proofs.lemmas.bits.BytesAndBits.bits_of-whole_bytes, specs.Bits.bits_in_bytes}
use Rattle.rice_bits.proofs.laws.bytes_keep_bits.Goals as goal

pub returns : goal.returns
returns c bits =
    ap (λ front. front ++ drop (bits_in_bytes (length bits)) bits) (bits_of-whole_bytes bits) ∙ take-append-drop (bits_in_bytes (length bits)) bits
