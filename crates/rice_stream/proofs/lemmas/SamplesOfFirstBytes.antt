-- Samples of the first bytes are the same whatever bytes follow, and whole samples leave no byte.
use Rattle.std.proofs.Common.{◌≡◌, ℕ, ◌+◌, ◌*◌, ◌<◌, ◌≤◌, List, [], ◌∷◌, ◌++◌, length, Option, Err, ap, arith, sym, ◌∙◌, append-nil, length-append, ℤ}
use Rattle.rice_stream.proofs.Words.{mul-le-mul_left, take-append-le, Room, Parameters, width, Reads, spellings, EndsSpelling, NoSpelling, reads_before, length-spellings, Beginning, Pushes}
use Rattle.rice_stream.proofs.Words.{EncodingValue, Fault, Write, SampleOutOfRange, lt_of_mul-lt-mul_left, nil_from_length}

-- what spells no sample spells none with more after it
no_spelling_before : (s : Parameters) (rest after : List ℕ) → EndsSpelling s rest NoSpelling → EndsSpelling s (rest ++ after) NoSpelling
no_spelling_before s rest after h = (omega (arith, h.0, length-append rest after), λ x k e. h.1 x k (sym (take-append-le (width s) rest after h.0) ∙ e))

-- after the bytes where taking stops may stand any others
pub stops_before : (s : Parameters) (old : Beginning) (new : Option Room) (e : EncodingValue) (xs : List ℤ) (bytes after : List ℕ) (fault : Fault)
    → Pushes {T = Unit {0}} s old new e xs bytes (Err fault) → Pushes {T = Unit {0}} s old new e xs (bytes ++ after) (Err fault)
stops_before s old new e xs bytes after (SampleOutOfRange index) (h, named) = (
  record { more = h.more; rest = h.rest ++ after; reads = reads_before s h.more bytes h.rest after h.reads; ends = no_spelling_before s h.rest after h.ends; holds = h.holds },
  named,
)
stops_before s old new e xs bytes after Write h = record {
  more = h.more;
  last = h.last;
  rest = h.rest ++ after;
  reads = reads_before s (h.more ++ h.last ∷ []) bytes h.rest after h.reads;
  fails = h.fails;
}
stops_before s old new e xs bytes after _ h = absurd h

-- nothing is left of a part that has the bytes of whole samples
pub none_left : (s : Parameters) (more : List ℤ) (bytes rest : List ℕ) (k : ℕ) → Reads s bytes more rest → length rest < width s → length bytes ≡ width s * k → bytes ≡ spellings s more
none_left s more bytes rest k r few whole =
    r.split ∙ ap (λ l. spellings s more ++ l)
    (nil_from_length rest (zero_rest (width s) (length more) (length rest) k few
    (omega (arith, ap length r.split, length-append (spellings s more) rest, length-spellings s more, whole)))) ∙ append-nil (spellings s more)
  where
    zero_rest : (w n m k : ℕ) → m < w → w * n + m ≡ w * k → m ≡ 0
    zero_rest w n m k few same = let lt : k < n + 1 = lt_of_mul-lt-mul_left w (omega arith) in let p : w * k ≤ w * n = mul-le-mul_left w (omega arith) in omega (arith, p)

-- samples, and the bytes that are left, are at most as many as the bytes
pub few_more : (s : Parameters) (more : List ℤ) (bytes rest : List ℕ) → Reads s bytes more rest → 1 ≤ width s → length more + length rest ≤ length bytes
few_more s more bytes rest r some =
    let p : length more * 1 ≤ length more * width s = mul-le-mul_left (length more) some in
    omega (arith, p, ap length r.split, length-append (spellings s more) rest, length-spellings s more)
