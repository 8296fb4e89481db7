use Rattle.rice_fast.proofs.Words.{◌≡◌, ℕ, List, Option, ◌≤◌, ◌+◌, ◌-◌, ◌*◌, ◌%◌, ◌^◌, ◌++◌, ◌∙◌, arith, drop, length, ap, append_assoc, append-nil, sym, flat_map, pow-le-pow_right, word, id_len}
use Rattle.rice_fast.proofs.Words.{Parameters, reference_bits, reference_len, sent_from, sent_residuals, coded_and_reference, length_words, sent_are}
use Rattle.rice_fast.proofs.encode.options.put_no_compression.Goals as goal

-- the identifier does not wrap
all_ones : (n : ℕ) → n ≤ 5 → (1 * 2 ^ n) % 4294967296 - 1 ≡ 2 ^ n - 1
all_ones n h = let few : 2 ^ n ≤ 2 ^ 5 = pow-le-pow_right {n = 2} (omega arith) {i = n} {j = 5} h in omega (arith, few)

-- The words of the residuals that are sent: with the reference, they have the digits of all residuals.
record ArePut (s : Parameters) (r : Option ℕ) (w from : ℕ) (items ds : List ℕ) : Type 0 where
  len : length items ≡ length ds
  words : flat_map (word w) (drop from items) ≡ flat_map (word s.bits) (sent_from r ds)
  digits : reference_len s r + length (flat_map (word w) (drop from items)) ≡ length ds * s.bits

are_put : (s : Parameters) (r : Option ℕ) {w from : ℕ} {items ds : List ℕ} → items ≡ ds → sent_from r ds ≡ drop from ds → w ≡ s.bits → 1 ≤ length ds → ArePut s r w from items ds
are_put s r {w} {from} {items} {ds} same coded bits some =
    let words = (sent_are (sent_from r ds) ds items from w 0 coded same).bits (word w) ∙ ap (λ n. flat_map (word n) (sent_from r ds)) bits in
    record { len = ap length same; words = words; digits = omega (arith, ap length words, length_words s.bits (sent_from r ds), coded_and_reference s r ds some) }

pub put_words-requires-clause-low : goal.put_words-requires-clause-low
put_words-requires-clause-low c =
    let s = c.args.setting.now in
    let b = c.args.block.now in
    let put = are_put s b.reference (c.items-residuals.ensures.value ∙ c.residuals.ensures) c.first_coded-from.ensures.coded c.bits-bits.ensures.value (omega arith) in
    let ref = ap (reference_len s) c.reference.ensures in
    record {
      width = omega (arith, c.bits-bits.ensures.range);
      from = c.first_coded-from.ensures.limit;
      room = record { room = omega (arith, put, ref); steps = omega (arith, put, ref, c.requires.sound.len) };
    }

pub returns : goal.returns
returns c =
    let s = c.args.setting.now in
    let b = c.args.block.now in
    let put = are_put s b.reference (c.items-residuals.ensures.value ∙ c.residuals.ensures) c.first_coded-from.ensures.coded c.bits-bits.ensures.value (omega arith) in
    let ref = ap (reference_len s) c.reference.ensures in
    let id = all_ones c.id_len-id.result (omega (arith, c.id_len-id.ensures.range)) ∙ ap (λ n. 2 ^ n - 1) c.id_len-id.ensures.value in
    let head = c.begin_set-fields.ensures.bits ∙ (λ i. c.args.sink.now ++ word (c.id_len-id.ensures.value i) (id i) ++ reference_bits s (c.reference.ensures i)) in
    let all = sym (append-nil c.put_words.new.sink) ∙ (c.put_words.ensures.bits ∙ (λ i. head i ++ put.words i)) in
    let first = word (id_len s) (2 ^ id_len s - 1) in
    record {
      bits = all ∙ (append_assoc (c.args.sink.now ++ first) (reference_bits s b.reference) (flat_map (word s.bits) (sent_residuals b))
          ∙ append_assoc c.args.sink.now first (reference_bits s b.reference ++ flat_map (word s.bits) (sent_residuals b)));
      len = omega (arith, put, ref);
      steps_from = omega (arith, put, ref, c.requires.sound.len);
      steps_to = omega (arith, put, ref, c.requires.sound.len);
    }
