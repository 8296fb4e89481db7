-- What was encoded comes back, and room suffices.
use Rattle.rice_calls.proofs.Words.{◌≡◌, ◌≢◌, ℕ, ◌*◌, ◌/◌, ◌<◌, ◌≤◌, List, [], ◌++◌, length, take, drop, Option, Some, None, inl, inr, ◌⊎◌, sym, ◌∙◌, ap, subst, arith, append-nil, ℤ, Consumes}
use Rattle.rice_calls.proofs.Words.{IsAtEnd, take-append_seam, Parameters, IsLegal, width, spellings, length-spellings, Call, Encodes, Decodes, Fault, Read, Write, RiceReport, Done, NoRoom}
use Rattle.rice_calls.proofs.Words.{EncodesInto, DecodesInto, StandsInFront, ReturnsBytes, ReturnsBytesAndFill, RoomSuffices, report_of, code_room, status_number, fault_status}
use Rattle.rice_calls.proofs.lemmas.RoomOfCallSuffices.{encode_wants, decode_wants, write_of, none_of}
use Rattle.rice_stream.proofs.lemmas.ReturnedBytes as stream

-- with the room that is reported, encoding never wants more
pub encode_suffices : (s : Parameters) (input old new : List ℕ) (r : RiceReport) (status : ℕ) → IsLegal s → EncodesInto s input old new r status
    → code_room s (length input / width s) ≤ length old → status ≢ 9
encode_suffices s input old new r status legal e room full =
    let write : e.fault ≡ Some Write = write_of e.fault (sym e.tells.status ∙ full) in
    let wants = encode_wants s e.call (report_of r) input e.takes.left legal e.takes.gave (subst (λ (f : Option Fault). Encodes s e.call (report_of r) f) write e.encodes) in
    omega (arith, wants, e.writes.full write, room)

-- with room for the samples asked for, decoding never wants more
pub decode_suffices : (s : Parameters) (count : ℕ) (input old new : List ℕ) (r : RiceReport) (status : ℕ) → DecodesInto s (Some count) input old new r status
    → count * width s ≤ length old → status ≢ 9
decode_suffices s count input old new r status d room full =
    let write : d.fault ≡ Some Write = write_of d.fault (sym d.tells.status ∙ full) in
    let wants = decode_wants s count d.call (report_of r) (subst (λ (f : Option Fault). Decodes s (Some count) d.call (report_of r) f) write d.decodes) in
    omega (arith, wants, d.writes.full write, room)

-- so with room for as much as the samples can take neither call says that there is no room
pub room_suffices : RoomSuffices
room_suffices s legal input old new r status = (encode_suffices s input old new r status legal, λ count. decode_suffices s count input old new r status)

-- What a call that encoded all has done, and that a call was given its code.
record EncodedAll (s : Parameters) (samples : List ℕ) (encoded : RiceReport) (c : Call) (left : Option (List ℕ)) (given : List ℕ) : Type 0 where
  pub encodes : Encodes s c (report_of encoded) None
  pub all : samples ≡ c.given
  pub gave : Consumes (Some c.written) left given

-- the code of samples decodes to them, and what fills the last block
encoded_all : {s : Parameters} {samples code_old code old new : List ℕ} {asked : Option ℕ} {encoded decoded : RiceReport} {status : ℕ}
    → (e : EncodesInto s samples code_old code encoded (status_number Done)) →
    (d : DecodesInto s asked (take encoded.written code) old new decoded status) → EncodedAll s samples encoded e.call d.call.left d.call.given
encoded_all {s} {code_old} {code} {encoded} e d =
    let none : e.fault ≡ None = none_of e.fault (sym e.tells.status) e.writes.reads in
    let all = subst (λ (f : Option Fault). Encodes s e.call (report_of encoded) f) none e.encodes in
    let at_end : e.takes.left ≡ [] = subst (λ (l : Option (List ℕ)). IsAtEnd l) e.takes.left_is all.ends.1 in
    let front : take encoded.written code ≡ e.call.written = ap (λ n. take n code) e.tells.written ∙ ap (take (length e.call.written)) e.writes.front
    ∙ take-append_seam e.call.written (drop (length e.call.written) code_old) in
    record {
      encodes = all;
      all = e.takes.gave ∙ ap (λ l. e.call.given ++ l) at_end ∙ append-nil e.call.given;
      gave = subst (λ (l : Option (List ℕ)). Consumes (Some e.call.written) l d.call.given) (sym d.takes.left_is) (sym front ∙ d.takes.gave);
    }

-- With the number of samples, and room for them, decoding what was encoded writes their bytes again, and all is done.
pub returns_bytes : ReturnsBytes
returns_bytes s legal samples code_old code old new encoded decoded status e d room =
    let a = encoded_all e d in
    let xs = a.encodes.samples in
    let spelled : e.call.given ≡ spellings s xs = a.encodes.ends.0.whole ∙ ap (λ l. spellings s xs ++ l) a.encodes.ends.0.stops ∙ append-nil (spellings s xs) in
    let size : length samples ≡ encoded.samples * width s = omega (arith, ap length a.all, ap length spelled, length-spellings s xs, ap (λ n. width s * n) a.encodes.ends.2.reports.samples) in
    by_end a.all size (stream.returns_bytes s legal e.call d.call (report_of encoded) (report_of decoded) d.fault a.encodes a.gave d.decodes)
  where
    by_end : samples ≡ e.call.given → length samples ≡ encoded.samples * width s → ((d.fault ≡ None) × (d.call.written ≡ e.call.given)) ⊎ ((d.fault ≡ Some Read) ⊎ (d.fault ≡ Some Write)) →
        (status ≡ 0) × StandsInFront samples old new
    by_end given size (inl h) = (d.tells.status ∙ ap (λ (f : Option Fault). status_number (fault_status f)) h.0, d.writes.front ∙ ap (λ l. l ++ drop (length l) old) (h.1 ∙ sym given))
    by_end given size (inr (inl h)) = absurd (d.writes.reads h)
    by_end given size (inr (inr h)) =
        absurd (let wants = decode_wants s encoded.samples d.call (report_of decoded)
        (subst (λ (f : Option Fault). Decodes s (Some encoded.samples) d.call (report_of decoded) f) h d.decodes) in omega (arith, wants, d.writes.full h, room, size))

-- Without the number it writes them and the bytes of fewer than a segment of samples more, and all is done, or there is no room.
pub returns_bytes_and_fill : ReturnsBytesAndFill
returns_bytes_and_fill s legal samples code_old code old new encoded decoded status e d =
    let a = encoded_all e d in
    by_end a.all (stream.returns_bytes_and_fill s legal e.call d.call (report_of encoded) (report_of decoded) d.fault a.encodes a.gave d.decodes)
  where
    status_of : (f : Option Fault) → d.fault ≡ f → status ≡ status_number (fault_status f)
    status_of f is = d.tells.status ∙ ap (λ (f : Option Fault). status_number (fault_status f)) is

    by_end : samples ≡ e.call.given → ((d.fault ≡ None) × (fill : List ℤ) × (length fill < 64 * s.block) × (d.call.written ≡ e.call.given ++ spellings s fill))
        ⊎ ((d.fault ≡ Some Read) ⊎ (d.fault ≡ Some Write)) →
        ((status ≡ status_number Done) × (fill : List ℤ) × (length fill < 64 * s.block) × StandsInFront (samples ++ spellings s fill) old new) ⊎ (status ≡ status_number NoRoom)
    by_end given (inl h) = inl (status_of None h.0, h.1, h.2, d.writes.front ∙ ap (λ l. l ++ drop (length l) old) (h.3 ∙ ap (λ l. l ++ spellings s h.1) (sym given)))
    by_end given (inr (inl h)) = absurd (d.writes.reads h)
    by_end given (inr (inr h)) = inr (status_of (Some Write) h)
