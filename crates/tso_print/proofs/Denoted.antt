-- A printed text denotes its client.
use Rattle.std.proofs.Common.{◌≡◌, ℕ, ◌+◌, false, List, [], ◌∷◌, length, Result, Ok, Err, refl, sym, ap, ◌∙◌, arith}
use Rattle.std.specs.Prelude.{nat_lt, sum_by}
use Rattle.std.proofs.lemmas.List.Sums.{sum_by-cons}
use Rattle.tso_text.specs.Lexing.{tokens_of}
use Rattle.tso_line.specs.declared.instruction.CallKind.{CallKind}
use Rattle.tso_prog.specs.declared.client.Array.{Array}
use Rattle.tso_prog.specs.declared.client.Client.{Client}
use Rattle.tso_prog.specs.declared.fault.Fault.{Fault}
use Rattle.tso_prog.specs.declared.fault.ReadError.TheVariants.{Refused, Memory}
use Rattle.tso_prog.specs.Client.{client}
use Rattle.tso_prog.specs.Clients.{ClientOf}
use Rattle.tso_prog.specs.Contents.{Content}
use Rattle.tso_prog.specs.Finish.{client_or_fault}
use Rattle.tso_prog.specs.Program.{◌>>=◌, Numbered, read_from, lines_of}
use Rattle.tso_prog.specs.Start.{start}
use Rattle.tso_prog.specs.Text.{program_of}
use Rattle.tso_print.specs.Denotes.{Denotes, ReadsBack}
use Rattle.tso_print.specs.Layout.{client_lines, printed}
use Rattle.tso_print.proofs.Placing.{lines_read}
use Rattle.tso_print.proofs.Reading.{not_over, words_in}
use Rattle.tso_print.proofs.Whole.{IsSound, calls_in, lines_said, client_reads}
use Rattle.tso_print.proofs.Said.{client_are}
use Rattle.tso_print.proofs.Sizes.{printed_bytes, printed_fits}

lines_make : (c : ClientOf) → IsSound c → (read_from start (lines_of (printed c) (tokens_of (printed c))) >>= λ d. client_or_fault d) ≡ Ok c
unfolding printed
lines_make c s =
    let r = client_reads c s in
    ap (λ (ls : List Numbered). read_from start ls >>= λ d. client_or_fault d) (lines_read (client_lines c) (lines_said c) (client_are c s)) ∙ ap (λ (o : Result Content Fault). o >>= λ d. client_or_fault d) r.reads ∙ r.passes

pub printed_denotes : (c : ClientOf) → IsSound c → Denotes (printed c) c
unfolding program_of
printed_denotes c s =
    let fits : nat_lt 65536 (length (printed c)) ≡ false = not_over 65536 (length (printed c)) (printed_fits c s) in
    rw (fits, printed_bytes c s) (lines_make c s)

-- ---- what a client keeps

words_are : (arrays : List Array) → words_in arrays ≡ sum_by (λ (a : Array). length a.words) arrays
words_are [] = refl
words_are (a ∷ more) = ap (λ (n : ℕ). length a.words + n) (words_are more) ∙ sym (sum_by-cons (λ (b : Array). length b.words) a more)

calls_are : (ts : List (List CallKind)) → calls_in ts ≡ sum_by (λ (t : List CallKind). length t) ts
calls_are [] = refl
calls_are (t ∷ ts) = ap (λ (n : ℕ). length t + n) (calls_are ts) ∙ sym (sum_by-cons (λ (u : List CallKind). length u) t ts)

pub client_is_sound : (p : Client) → IsSound (client p)
client_is_sound p = record {
  some_capacity = p.some_capacity;
  small_capacity = p.small_capacity;
  few_arrays = p.few_arrays;
  few_words = omega (arith, words_are p.arrays, p.few_words);
  short_names = p.short_names;
  distinct_names = p.distinct_names;
  arrays_of_words = p.arrays_of_words;
  arrays_of_push = p.arrays_of_push;
  arrays_of_pop = p.arrays_of_pop;
  targets_of_push = p.push.targets_within;
  targets_of_pop = p.pop.targets_within;
  push_in_range = p.push.in_range;
  pop_in_range = p.pop.in_range;
  some_push = p.push.nonempty;
  some_pop = p.pop.nonempty;
  few_instructions = p.few_instructions;
  short_prologue = p.short_prologue;
  few_calls = omega (arith, calls_are p.threads, p.few_calls);
  some_threads = p.some_threads;
  few_threads = p.few_threads;
  short_threads = p.short_threads;
}

-- ---- reading it again

clash : (c : ClientOf) (f : Fault) (r : Result ClientOf Fault) → r ≡ Ok c → r ≡ Err f → ⊥
clash c f r d e = cc

same_client : (c x : ClientOf) (r : Result ClientOf Fault) → r ≡ Ok c → r ≡ Ok x → x ≡ c
same_client c x r d e = cc

pub reads_back : ReadsBack
reads_back text c (Ok x) d g = same_client c (client x) (program_of text) d g
reads_back text c (Err Memory) d g = tt
reads_back text c (Err (Refused f)) d g = clash c f (program_of text) d g
