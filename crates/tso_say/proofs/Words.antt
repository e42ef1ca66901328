-- Each code is found by its own word.
use Rattle.std.proofs.Common.{◌≡◌, ℕ, List, Option, Some, refl, sym, ap, ◌∙◌}
use Rattle.tso_say.specs.declared.topic.Topic.{Topic}
use Rattle.tso_say.specs.declared.topic.Topic.TheVariants as topics
use Rattle.tso_say.specs.Words.{topic_word, topic_named}

own_word : (t : Topic) → topic_named (topic_word t) ≡ Some t
unfolding topic_named
own_word topics.E01 = refl
own_word topics.E02 = refl
own_word topics.E03 = refl
own_word topics.E04 = refl
own_word topics.E05 = refl
own_word topics.E06 = refl
own_word topics.E07 = refl
own_word topics.E08 = refl
own_word topics.E09 = refl
own_word topics.E10 = refl
own_word topics.E11 = refl
own_word topics.E12 = refl
own_word topics.E13 = refl
own_word topics.E14 = refl
own_word topics.K01 = refl
own_word topics.K02 = refl
own_word topics.K03 = refl
own_word topics.K04 = refl
own_word topics.K05 = refl
own_word topics.K06 = refl
own_word topics.K07 = refl
own_word topics.K08 = refl
own_word topics.K09 = refl
own_word topics.K10 = refl
own_word topics.K11 = refl
own_word topics.K12 = refl
own_word topics.T01 = refl
own_word topics.T02 = refl
own_word topics.T03 = refl

-- and so by each text that is its word
pub found_by_word : (text : List ℕ) (t : Topic) (found : Option Topic) → found ≡ topic_named text → topic_word t ≡ text → found ≡ Some t
found_by_word text t found is same = is ∙ ap (λ (w : List ℕ). topic_named w) (sym same) ∙ own_word t
