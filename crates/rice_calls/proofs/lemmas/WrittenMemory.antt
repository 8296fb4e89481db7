-- What became of the slice that an outlet began with.
use Rattle.rice_calls.proofs.Words.{◌≡◌, ◌≢◌, ℕ, ◌+◌, ◌<◌, List, [], ◌++◌, length, Option, Some, sym, ◌∙◌, ap, subst, arith, length-append, Room, begun, Fills, Fails, Fault, Read, Write, WritesFront}

-- memory is read without faults
not_read : (fault : Option Fault) (n : ℕ) → Fails fault 0 0 0 n → fault ≢ Some Read
not_read fault n fails e = let f : Fails (Some Read) 0 0 0 n = subst (λ (f : Option Fault). Fails f 0 0 0 n) e fails in omega (arith, f.0)

-- What the outlet took stands in front, and the outlet fails only where all of the slice is filled.
pub writes_front : (old : List ℕ) {new bytes : List ℕ} (name failures : ℕ) {room : Room} (fault : Option Fault) → Fills (begun name old) room bytes
    → new ≡ room.bytes ++ room.rest → length new ≡ length old → Fails fault 0 0 0 failures → (0 < failures → room.rest ≡ []) → WritesFront bytes old new fault
writes_front old {new} {bytes} name failures {room} fault fills whole len fails full =
    let same : length room.bytes ≡ length bytes = ap length fills.bytes in
    let both : length new ≡ length room.bytes + length room.rest = ap length whole ∙ length-append room.bytes room.rest in
    record {
      front = whole ∙ ap (λ l. l ++ room.rest) fills.bytes ∙ ap (λ l. bytes ++ l) fills.rest;
      fits = omega (arith, same, both, len);
      reads = not_read fault failures fails;
      full = λ e. (let f : Fails (Some Write) 0 0 0 failures = subst (λ (f : Option Fault). Fails f 0 0 0 failures) e fails in
          let none : length room.rest ≡ 0 = ap length (full (omega (arith, f.1))) in
          omega (arith, same, both, len, none));
    }

-- so do all bytes of an outlet that took some
pub all_in_front : (old : List ℕ) {new : List ℕ} (name failures : ℕ) {room : Room} (fault : Option Fault) → (bytes : List ℕ) × Fills (begun name old) room bytes
    → new ≡ room.bytes ++ room.rest → length new ≡ length old → Fails fault 0 0 0 failures → (0 < failures → room.rest ≡ []) → WritesFront room.bytes old new fault
all_in_front old {new} name failures {room} fault wrote whole len fails full =
    subst (λ (l : List ℕ). WritesFront l old new fault) (sym wrote.1.bytes) (writes_front old name failures fault wrote.1 whole len fails full)
