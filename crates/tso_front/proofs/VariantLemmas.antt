-- What a variant makes of a text, and why it makes nothing.
use Rattle.std.proofs.Common.{◌≡◌, ◌∙◌, ◌++◌, ◌≤◌, ℕ, List, true, length, sym, ap}
use Rattle.std.proofs.lemmas.Bool.{false≢true}
use Rattle.std.proofs.lemmas.List.Concat.{flat_map-append}
use Rattle.tso_front.specs.declared.failure.Failure.{Failure}
use Rattle.tso_front.specs.declared.failure.Failure.TheVariants.{Usage, NotText, Program, Trace, Limit, CannotRead, CannotWrite, CannotPrint, Memory}
use Rattle.tso_front.specs.declared.variant.Variant.{Variant}
use Rattle.tso_front.specs.Replaced.{calls_of, ended, head_of, lines_of, prologue_of, replaced, text_of, threads_of}
use Rattle.tso_front.specs.Variants.{IsMisuse, IsWhyNot, is_misuse}

-- a text that is put together of its four parts
pub put_together : (v : Variant) (text head calls made : List ℕ) → head ≡ text_of (head_of v (lines_of text)) → calls ≡ text_of (calls_of v (lines_of text))
    → made ≡ head ++ text_of (prologue_of v.before) ++ calls ++ text_of (threads_of v.client) → made ≡ replaced v text
put_together v text head calls made of_head of_calls of_made =
    let front = head_of v (lines_of text) ++ prologue_of v.before in
    let kept = calls_of v (lines_of text) in
    of_made
    ∙ ap (λ bytes. bytes ++ text_of (prologue_of v.before) ++ calls ++ text_of (threads_of v.client)) of_head
    ∙ ap (λ bytes. text_of (head_of v (lines_of text)) ++ text_of (prologue_of v.before) ++ bytes ++ text_of (threads_of v.client)) of_calls
    ∙ ap (λ bytes. bytes ++ text_of kept ++ text_of (threads_of v.client)) (sym (flat_map-append ended (head_of v (lines_of text)) (prologue_of v.before)))
    ∙ ap (λ bytes. bytes ++ text_of (threads_of v.client)) (sym (flat_map-append ended front kept))
    ∙ sym (flat_map-append ended (front ++ kept) (threads_of v.client))

-- words that are misused are told as such, or there is no memory for that
pub told : (v : Variant) (text : List ℕ) (failure : Failure) → length text ≤ 65536 → IsMisuse v text → is_misuse failure ≡ true → IsWhyNot v text failure
told v text (Usage words) short misuse e = (short, misuse)
told v text Memory short misuse e = short
told v text (Program fault) short misuse e = absurd (false≢true e)
told v text NotText short misuse e = absurd (false≢true e)
told v text (Trace fault) short misuse e = absurd (false≢true e)
told v text Limit short misuse e = absurd (false≢true e)
told v text (CannotRead path) short misuse e = absurd (false≢true e)
told v text (CannotWrite path) short misuse e = absurd (false≢true e)
told v text CannotPrint short misuse e = absurd (false≢true e)
