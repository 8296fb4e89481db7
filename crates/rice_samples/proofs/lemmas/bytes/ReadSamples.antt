-- The samples that bytes spell, and others after them.
use Rattle.std.proofs.Common.{ℕ, List, ◌++◌, ap, sym, ◌∙◌, append_assoc, ℤ}
use Rattle.std.proofs.lemmas.List.Elements.{All-append}
use Rattle.rice_samples.{proofs.lemmas.bytes.SpellingLengths.spellings-append, specs.Parameters.Parameters, specs.Parameters.IsSample, specs.Spelling.Reads, specs.Spelling.spellings}

-- some samples, and then others
pub reads_then : (s : Parameters) (bytes rest last : List ℕ) (xs ys : List ℤ) → Reads s bytes xs rest → Reads s rest ys last → Reads s bytes (xs ++ ys) last
reads_then s bytes rest last xs ys f g = record {
  split = f.split ∙ ap (λ l. spellings s xs ++ l) g.split ∙ sym (append_assoc (spellings s xs) (spellings s ys) last) ∙ ap (λ l. l ++ last) (sym (spellings-append s xs ys));
  legal = All-append (IsSample s) xs ys f.legal g.legal;
}

-- bytes after them change nothing
pub reads_before : (s : Parameters) (xs : List ℤ) (bytes rest after : List ℕ) → Reads s bytes xs rest → Reads s (bytes ++ after) xs (rest ++ after)
reads_before s xs bytes rest after r = record { split = ap (λ l. l ++ after) r.split ∙ append_assoc (spellings s xs) rest after; legal = r.legal }
