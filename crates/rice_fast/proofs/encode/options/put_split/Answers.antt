use Rattle.rice_fast.proofs.Words.{◌≡◌, ℕ, List, ◌+◌, ◌-◌, ◌*◌, ◌/◌, ◌^◌, ◌≤◌, ◌++◌, ◌∙◌, ap, arith, drop, length, map, flat_map, slice_range, sum_by, word, fundamental_sequence, reference_bits}
use Rattle.rice_fast.proofs.Words.{reference_len, length_sequences, length_words, sent_are, split_is_joined, with_zeros}
use Rattle.rice_fast.proofs.lemmas.encode.HighParts.{high_text}
use Rattle.rice_fast.proofs.encode.options.put_split.Goals as goal

-- The residuals `ds` of a block, of which `sent` are sent from number `from` on, as they are put: the sequences of the high parts, and the words of the low ones.
record ArePut (k from : ℕ) (items ds sent parts : List ℕ) : Type 0 where
  len : length items ≡ length ds
  count : length sent ≡ length items - from
  ones : flat_map fundamental_sequence (slice_range parts from (length items)) ≡ flat_map (λ d. fundamental_sequence (d / 2 ^ k)) sent
  words : flat_map (word k) (drop from items) ≡ flat_map (word k) sent
  high : length (flat_map fundamental_sequence (slice_range parts from (length items))) ≡ length sent + sum_by (λ d. d / 2 ^ k) sent
  low : length (flat_map (word k) (drop from items)) ≡ length sent * k

are_put : {k from : ℕ} {items ds sent parts : List ℕ} → items ≡ ds → sent ≡ drop from ds → from ≤ length ds → parts ≡ with_zeros (map (λ d. d / 2 ^ k) ds) → ArePut k from items ds sent parts
are_put {k} {from} {items} {ds} {sent} same coded inside parts =
    let are = sent_are sent ds items from k k coded same in
    let len = ap length same in
    let ones = high_text k from (length items) ds sent len (omega (arith, len, inside)) parts coded in
    record {
      len = len;
      count = are.count;
      ones = ones;
      words = are.bits (word k);
      high = ap length ones ∙ length_sequences k sent;
      low = ap length (are.bits (word k)) ∙ length_words k sent;
    }

pub put_high-fields-requires-clause-room : goal.put_high-fields-requires-clause-room
put_high-fields-requires-clause-room g c =
    let put = are_put {k = c.args.k} (c.items-residuals.ensures.value ∙ c.residuals.ensures) c.first_coded-from.ensures.coded (omega arith) c.requires.high in
    let ref = ap (reference_len c.args.setting.now) c.reference.ensures in
    record { room = omega (arith, put, ref, c.requires.sound.len); steps = omega (arith, put, ref, c.requires.sound.len) }

pub put_low-requires-clause-low : goal.put_low-requires-clause-low
put_low-requires-clause-low g c =
    let put = are_put {k = c.args.k} (c.items-residuals.ensures.value ∙ c.residuals.ensures) c.first_coded-from.ensures.coded (omega arith) c.requires.high in
    let ref = ap (reference_len c.args.setting.now) c.reference.ensures in
    record {
      width = omega (arith, c.requires.split, c.k_max-limit.ensures.value, c.k_max-limit.ensures.range);
      from = c.first_coded-from.ensures.limit;
      room = record { room = omega (arith, put, ref, c.requires.sound.len); steps = omega (arith, put, ref, c.requires.sound.len) };
    }

pub put_if-requires : goal.put_if-requires
put_if-requires g c =
    let put = are_put {k = c.args.k} (c.items-residuals.ensures.value ∙ c.residuals.ensures) c.first_coded-from.ensures.coded (omega arith) c.requires.high in
    let ref = ap (reference_len c.args.setting.now) c.reference.ensures in
    record { room = omega (arith, put, ref, c.requires.sound.len); steps = omega (arith, put, ref, c.requires.sound.len) }

pub put-requires : goal.put-requires
put-requires g c =
    let put = are_put {k = c.args.k} (c.items-residuals.ensures.value ∙ c.residuals.ensures) c.first_coded-from.ensures.coded (omega arith) c.requires.high in
    let ref = ap (reference_len c.args.setting.now) c.reference.ensures in
    record { room = omega (arith, put, ref, c.requires.sound.len); steps = omega (arith, put, ref, c.requires.sound.len) }

pub returns : goal.returns
returns g c =
    let s = c.args.setting.now in
    let put = are_put {k = c.args.k} (c.items-residuals.ensures.value ∙ c.residuals.ensures) c.first_coded-from.ensures.coded (omega arith) c.requires.high in
    let ref = ap (reference_len s) c.reference.ensures in
    let head = ap (λ n. c.args.sink.now ++ word n (c.args.k + 1)) c.id_len-id.ensures.value in
    let fields = c.begin_set-fields.ensures.bits ∙ (λ i. head i ++ reference_bits s (c.reference.ensures i)) in
    let highs = c.put_if.ensures.bits ∙ (c.put_high-fields.ensures.bits ∙ (λ i. fields i ++ put.ones i)) in
    record {
      bits = c.put.ensures.bits ∙ (c.put_low.ensures.bits ∙ (λ i. highs i ++ put.words i)) ∙ split_is_joined s c.args.k c.args.block.now c.args.sink.now;
      len = omega (arith, put, ref, c.requires.sound.len);
      steps_from = omega (arith, put, ref, c.requires.sound.len);
      steps_to = omega (arith, put, ref, c.requires.sound.len);
    }
