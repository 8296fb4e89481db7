-- Where intervals begin in a code that is fed piece by piece.
use Rattle.rice_calls.proofs.Words.{◌≡◌, ℕ, ◌+◌, ◌*◌, List, [], ◌∷◌, ◌++◌, length, drop, Some, None, Result, Ok, Err, refl, sym, ◌∙◌, ap, subst, arith, append_assoc, length-append, ℤ, drop_at}
use Rattle.rice_calls.proofs.Words.{sum_by-cons, Room, begun, Parameters, width, spellings, early_output, IsSeam, EncodesMore, Fault, Seam, nothing_early, place_of_seam, length-spellings}
use Rattle.rice_calls.proofs.Words.{spellings-append, RiceFeed, fault_of, fed, AreFed, FeedsTellPlaces, Push, last_feed, written_by}
use Rattle.rice_calls.proofs.lemmas.RoomOfCallSuffices.{none_of}

-- The first samples of an input were fed, and so many bytes are written.
record HasPushed (s : Parameters) (input : List ℕ) (feed : RiceFeed) (written : ℕ) : Type 0 where
  pub samples : List ℤ
  pub rest : List ℕ
  pub split : input ≡ spellings s samples ++ rest
  pub stands : IsSeam s feed.seam samples
  pub count : written ≡ length (early_output s samples)

-- one push goes on with what was pushed before
pushes_on : (s : Parameters) (input : List ℕ) (feed : RiceFeed) (p : Push) (ps : List Push) (written : ℕ) → HasPushed s input feed written
    → AreFed s input feed (p ∷ ps) → HasPushed s input p.feed (written + p.report.written)
pushes_on s input feed p ps written h are_fed =
    let d = are_fed.2 h.samples h.stands in
    by_outcome d.outcome d.name d.room d.encodes d.feeds d.tells.written (none_of (fault_of d.outcome) (sym d.tells.status ∙ are_fed.1) d.writes.reads)
  where
    xs : List ℤ
    xs = h.samples

    by_outcome : (r : Result Seam Fault) (name : ℕ) (room : Room) → EncodesMore s xs p.piece (Some (begun name p.old)) (Some room) r → p.feed ≡ fed feed r
        → p.report.written ≡ length room.bytes → fault_of r ≡ None → HasPushed s input p.feed (written + p.report.written)
    by_outcome (Err fault) name room e feeds count none = absurd cc
    by_outcome (Ok seam) name room e feeds count none =
        let size : length (spellings s xs) ≡ width s * feed.seam.samples = length-spellings s xs ∙ ap (λ n. width s * n) (sym h.stands.counts.samples) in
        let left : drop (width s * feed.seam.samples) input ≡ h.rest = ap (drop (width s * feed.seam.samples)) h.split ∙ drop_at (spellings s xs) h.rest (width s * feed.seam.samples) size in
        let rest : h.rest ≡ spellings s e.more ++ (e.rest ++ are_fed.0.0) = sym left ∙ are_fed.0.1 ∙ ap (λ l. l ++ are_fed.0.0) e.reads.split ∙ append_assoc (spellings s e.more) e.rest are_fed.0.0 in
        record {
          samples = xs ++ e.more;
          rest = e.rest ++ are_fed.0.0;
          split = h.split ∙ ap (λ l. spellings s xs ++ l) rest ∙ sym (append_assoc (spellings s xs) (spellings s e.more) (e.rest ++ are_fed.0.0))
              ∙ ap (λ l. l ++ (e.rest ++ are_fed.0.0)) (sym (spellings-append s xs e.more));
          stands = subst (λ (f : RiceFeed). IsSeam s f.seam (xs ++ e.more)) (sym feeds) e.stands;
          count = omega (arith, h.count, count, ap length e.writes.took.bytes, ap length e.writes.split, length-append (early_output s xs) e.writes.more);
        }

-- and several do, one after another
pushes_all : (s : Parameters) (input : List ℕ) (feed : RiceFeed) (pushes : List Push) (written : ℕ) → HasPushed s input feed written
    → AreFed s input feed pushes → HasPushed s input (last_feed feed pushes) (written + written_by pushes)
pushes_all s input feed [] written h are_fed = let e : written ≡ written + 0 = omega arith in subst (λ (n : ℕ). HasPushed s input feed n) e h
pushes_all s input feed (p ∷ ps) written h are_fed =
    let all : written_by (p ∷ ps) ≡ p.report.written + written_by ps = sum_by-cons (λ (q : Push). q.report.written) p ps in
    let e : written + p.report.written + written_by ps ≡ written + written_by (p ∷ ps) = omega (arith, all) in
    subst (λ (n : ℕ). HasPushed s input (last_feed p.feed ps) n) e (pushes_all s input p.feed ps (written + p.report.written) (pushes_on s input feed p ps written h are_fed) are_fed.3)

-- where an interval begins, the reports' counts are its place
pub feeds_tell_places : FeedsTellPlaces
feeds_tell_places s input setting first begun pushes begins are_fed at_start =
    let none = begins.none in
    let start : HasPushed s input first 0 = record { samples = []; rest = input; split = refl; stands = none; count = ap length (sym (nothing_early s none.counts.stands.holds.legal)) } in
    let h = pushes_all s input first pushes 0 start are_fed in
    let count : written_by pushes ≡ length (early_output s h.samples) = omega (arith, h.count) in
    (h.samples, h.rest, h.split, λ ys. place_of_seam s (last_feed first pushes).seam h.samples ys (written_by pushes) h.stands at_start count)
