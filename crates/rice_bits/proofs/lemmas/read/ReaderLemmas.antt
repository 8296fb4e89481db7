-- What a reader of bits takes, and where it stops.
use Rattle.std.proofs.Common.{◌≡◌, ℕ, ◌+◌, ◌<◌, ◌≤◌, Bool, true, false, List, [], ◌∷◌, ◌++◌, length, replicate, refl, sym, ◌∙◌, ap, subst, arith, append_assoc, length-append, Option, Some, None}
use Rattle.std.specs.Prelude.{◌&&◌, IfSome, IsSome}
use Rattle.std.{proofs.lemmas.List.replicate-append-replicate, proofs.lemmas.Grind.common_steps, specs.Option.is_some}
use Rattle.rice_bits.proofs.lemmas.read.BlankBits.{and-assoc, and-true, blank-append, blank_joined, one_after_zeros}
use Rattle.rice_bits.specs.{Reader.Refills, Reader.Takes, Reader.Stops, Reader.Refuses, Reader.Reader, Reader.is_blank, declared.read.fault.BitFault.BitFault}
use Rattle.rice_bits.specs.{Window.Passes, Window.window_bits, Window.window_passed, Window.window_taken, Bits.bits_of, Bits.fundamental_sequence}
use Rattle.rice_bits.{proofs.lemmas.read.RefilledBytes.refills-append, proofs.lemmas.read.RefilledBytes.refills-buffered, specs.declared.read.window.Window.Window}

-- bits are taken of those that a window has
pub takes_passed : {I : Type 0} {old : Reader I} (intake : I) {left : Option (List ℕ)} {failed : ℕ} {mid new : Window} (before : Bool) {refusal : Option BitFault} {bits : List Bool}
    → Refills old.left left old.buffered (window_bits new) bits → window_taken mid ≡ old.taken
    → (before && is_blank (window_passed mid)) ≡ old.blank → refusal ≡ None → failed ≡ old.failed → Passes mid new bits → Takes old
    (record { buffered = window_bits new; taken = window_taken new; blank = before && is_blank (window_passed new); refusal = refusal; intake = intake; left = left; failed = failed }) bits
takes_passed intake {mid} before {bits} refills taken blank going same passes = grind (arith, common_steps, blank-append, and-assoc)

-- a reader that stays as it is, and has refused nothing, has taken no bits
pub takes-none : {I : Type 0} (r : Reader I) → r.refusal ≡ None → Takes r r []
takes-none r h = grind (arith, common_steps, refills-buffered, and-true)

-- bits that are taken in one step, and others in the next, are taken in both together
pub takes-append : {I : Type 0} (old mid new : Reader I) (xs ys : List Bool) → Takes old mid xs → Takes mid new ys → Takes old new (xs ++ ys)
takes-append old mid new xs ys p q = grind (arith, common_steps, refills-append, length-append, blank_joined)

-- where the next step takes the last bits and refuses, so do both together
pub stops-append : {I : Type 0} (old mid new : Reader I) (xs ys : List Bool) (f : BitFault) → Takes old mid xs → Stops mid new ys f → Stops old new (xs ++ ys) f
stops-append old mid new xs ys f p q = record {
  middle = q.middle;
  refills = refills-append p.refills q.refills;
  refuses = subst (λ n. Refuses f q.middle new.left n new.failed new.taken new.blank) p.failures q.refuses;
  taken = omega (arith, p.taken, q.taken, length-append xs ys);
  blank = blank_joined old.blank mid.blank new.blank xs ys p.blank q.blank;
  buffered = q.buffered;
  refusal = q.refusal;
}

-- where enough bits are buffered, enough are buffered after some were taken
pub still_buffered : {I : Type 0} (old new : Reader I) (xs : List Bool) → Takes old new xs → length old.buffered ≤ length xs + length new.buffered
still_buffered old new xs p =
    omega (arith, ap length p.refills.split, length-append old.buffered (bits_of p.refills.given), length-append xs new.buffered)

-- zeros in front of a fundamental sequence make a longer one
pub zeros-fs : (a b : ℕ) → replicate a false ++ fundamental_sequence b ≡ fundamental_sequence (a + b)
zeros-fs a b = sym (append_assoc (replicate a false) (replicate b false) (true ∷ [])) ∙ ap (λ z. z ++ true ∷ []) (replicate-append-replicate a b false)

-- where a 1 is buffered, some bit is buffered after zeros were taken
pub one_buffered : {I : Type 0} (old new : Reader I) (n : ℕ) → Takes old new (replicate n false) → is_blank old.buffered ≡ false → 0 < length new.buffered
one_buffered old new n taken some = one_after_zeros old.buffered (bits_of taken.refills.given) new.buffered n some taken.refills.split

-- where a test says that there is no refusal, there is none
pub no_refusal : (refusal : Option BitFault) → is_some refusal ≡ false → refusal ≡ None
no_refusal None e = refl
no_refusal (Some f) e = absurd cc

-- what holds of a fault holds of a refusal that is this fault
pub refusal_is : (refusal : Option BitFault) (f : BitFault) (P : BitFault → Type 0) → refusal ≡ Some f → P f → IfSome refusal P
refusal_is refusal f P e holds = rw e holds

-- a reader with a bit has refused nothing
pub not_refused : (refusal : Option BitFault) (bits : List Bool) → 0 < length bits → (IsSome refusal → bits ≡ []) → refusal ≡ None
not_refused None bits some stopped = refl
not_refused (Some f) bits some stopped = absurd (omega (arith, ap length (stopped refl), some))
