-- The room that is reported for a piece suffices.
use Rattle.rice_calls.proofs.Words.{◌≡◌, ℕ, ◌+◌, ◌-◌, ◌*◌, ◌/◌, ◌<◌, ◌≤◌, false, List, [], ◌∷◌, ◌++◌, length, take, replicate, Option, Some, Result, Ok, Err, inl, inr, sym, ◌∙◌, ap, subst, arith}
use Rattle.rice_calls.proofs.Words.{append_assoc, append-nil, length-append, ℤ, All, take-append-add, div_ceil_times, length-replicate, length-take, All-from_recursion, All-take, bits_to_byte}
use Rattle.rice_calls.proofs.Words.{padded_bits, Room, begun, Parameters, IsLegal, IsSample, width, cut, added_bound, code, output, early_output, added_code_is_bounded, between_all, FollowsBetween}
use Rattle.rice_calls.proofs.Words.{IsSeam, after, WantsRoom, AreAll, EncodesMore, EncodesRest, Fault, Write, Report, Seam, code_of_seam, cut_grows, fault_of, PushRoomSuffices, push_room}
use Rattle.rice_calls.proofs.lemmas.RoomOfCallSuffices.{bound_le, few_samples, few_whole, stops_short, write_of}

-- the samples of a feed are legal
fed_legal : (s : Parameters) (seam : Seam) (xs : List ℤ) → IsSeam s seam xs → All (IsSample s) xs
fed_legal s seam xs h = subst (All (IsSample s)) (sym h.counts.stands.parts) (All-from_recursion (IsSample s) (h.counts.stands.coded ++ h.counts.stands.held) h.counts.stands.holds.samples)

module _ (s : Parameters) (legal : IsLegal s) (seam : Seam) (xs : List ℤ) (h : IsSeam s seam xs) where
  -- the code of other samples adds to it
  adds : (ys : List ℤ) (n : ℕ) → All (IsSample s) ys → length ys ≤ n → length (code s (xs ++ ys)) ≤ length (code s xs) + added_bound s n
  adds ys n k few =
      omega (arith, added_code_is_bounded s legal xs ys (fed_legal s seam xs h) k (between_all s seam.start seam.previous xs h.counts.stands), bound_le s (length ys) n legal few)

  adds_early : (ys : List ℤ) (n : ℕ) → All (IsSample s) ys → length ys ≤ n → 8 * length (early_output s (xs ++ ys)) ≤ length (code s xs) + added_bound s n
  adds_early ys n k few =
      let zs = xs ++ ys in
      let up = cut_grows s seam xs (length zs) h (omega (arith, length-append xs ys)) in
      let m = cut s (length zs) - length xs in
      let e : cut s (length zs) ≡ length xs + m = omega (arith, up) in
      let part : take (cut s (length zs)) zs ≡ xs ++ take m ys = ap (λ i. take i zs) e ∙ take-append-add xs ys m in
      let bound = adds (take m ys) n (All-take (IsSample s) m ys k) (omega (arith, length-take m ys, few)) in
      omega (arith, few_whole (code s (take (cut s (length zs)) zs)), ap (λ l. length (code s l)) part, bound)

  adds_output : (ys : List ℤ) (n : ℕ) → All (IsSample s) ys → length ys ≤ n → 8 * length (output s (xs ++ ys)) ≤ length (code s xs) + added_bound s n + 7
  adds_output ys n k few =
      let c = code s (xs ++ ys) in
      let filled : length (padded_bits c) ≤ length c + 7 = omega (arith, length-append c (replicate (bits_to_byte (length c)) false), length-replicate (bits_to_byte (length c)) false) in
      omega (arith, few_whole (padded_bits c), filled, adds ys n k few)

  -- an outlet that stopped short of bytes that are so few
  module _ (input old : List ℕ) (name : ℕ) (room : Room) where
    short : (from to : List ℕ) → (f : FollowsBetween (after s xs (Some (begun name old))) (Some room) from to) → 8 * length to ≤ length (code s xs) + added_bound s (length input / width s) + 7 →
        length room.bytes < push_room s seam.waiting_bits (length input / width s)
    short from to f few =
        let all : length f.written ≡ length (early_output s xs) + length f.took.more = ap length f.took.split ∙ length-append (early_output s xs) f.took.more in
        let mine : length room.bytes ≡ length f.took.more = ap length f.took.took.bytes in
        omega (arith, stops_short from to f.written f.stops, all, mine, few, code_of_seam s seam xs h, (div_ceil_times (seam.waiting_bits + added_bound s (length input / width s)) 8 (omega arith)).0)

    more_wants : (more : List ℤ) (last : ℤ) → WantsRoom s xs input (Some (begun name old)) (Some room) more last → length room.bytes < push_room s seam.waiting_bits (length input / width s)
    more_wants more last w =
        let ys = more ++ last ∷ [] in
        let few = few_samples s ys input w.rest input [] legal w.reads.split (sym (append-nil input)) in
        let same = ap (λ l. length (early_output s l)) (append_assoc xs more (last ∷ [])) in
        short _ _ w.writes (omega (arith, adds_early ys (length input / width s) w.reads.legal few, same))

    rest_wants : (more : List ℤ) → AreAll s xs input (Some (begun name old)) (Some room) more
        → FollowsBetween (after s xs (Some (begun name old))) (Some room) (early_output s (xs ++ more)) (output s (xs ++ more)) →
        length room.bytes < push_room s seam.waiting_bits (length input / width s)
    rest_wants more a f =
        let few = few_samples s more input [] input [] legal (a.spelled ∙ sym (append-nil _)) (sym (append-nil input)) in
        short _ _ f (adds_output more (length input / width s) a.legal few)

    push_wants : (r : Result Seam Fault) → fault_of r ≡ Some Write → EncodesMore s xs input (Some (begun name old)) (Some room) r
        → length room.bytes < push_room s seam.waiting_bits (length input / width s)
    push_wants (Ok seam) e w = absurd cc
    push_wants (Err fault) e w =
        let is : fault ≡ Write = cc in
        let wants = subst (λ (f : Fault). EncodesMore s xs input (Some (begun name old)) (Some room) (Err f)) is w in
        more_wants wants.0 wants.1 wants.2

    finish_wants : (r : Report) (fault : Option Fault) → fault ≡ Some Write → EncodesRest s xs input (Some (begun name old)) (Some room) r fault
        → length room.bytes < push_room s seam.waiting_bits (length input / width s)
    finish_wants r fault e w = elim (subst (λ (f : Option Fault). EncodesRest s xs input (Some (begun name old)) (Some room) r f) e w) [
      | inl w ↦ more_wants w.0 w.1 w.2
      | inr w ↦ rest_wants w.0 w.1 w.3
    ]

-- the room that is reported suffices for the code of a piece
pub push_room_suffices : PushRoomSuffices
push_room_suffices s legal xs input old new r status = (
  λ before after h p enough no.
      (let e = write_of (fault_of p.outcome) (sym p.tells.status ∙ no) in
      omega (arith, push_wants s legal before.seam xs h input old p.name p.room p.outcome e p.encodes, p.writes.full e, enough)),
  λ seam h p enough no.
      (let e = write_of p.fault (sym p.tells.status ∙ no) in
      omega (arith, finish_wants s legal seam xs h input old p.name p.room _ p.fault e p.encodes, p.writes.full e, enough)),
)
