-- The words of the codes: one table, by which codes are read and printed.
use Rattle.std.specs.Prelude.{ℕ, List, [], ◌∷◌, Option, codes}
use Rattle.std.specs.List.{find}
use Rattle.std.specs.Str.{bytes_eq}
use Rattle.tso_say.specs.declared.topic.Topic.{Topic}
use Rattle.tso_say.specs.declared.topic.Topic.TheVariants as topics

abbrev pub topic_word : Topic → List ℕ
topic_word topics.E01 = codes "E01"
topic_word topics.E02 = codes "E02"
topic_word topics.E03 = codes "E03"
topic_word topics.E04 = codes "E04"
topic_word topics.E05 = codes "E05"
topic_word topics.E06 = codes "E06"
topic_word topics.E07 = codes "E07"
topic_word topics.E08 = codes "E08"
topic_word topics.E09 = codes "E09"
topic_word topics.E10 = codes "E10"
topic_word topics.E11 = codes "E11"
topic_word topics.E12 = codes "E12"
topic_word topics.E13 = codes "E13"
topic_word topics.E14 = codes "E14"
topic_word topics.K01 = codes "K01"
topic_word topics.K02 = codes "K02"
topic_word topics.K03 = codes "K03"
topic_word topics.K04 = codes "K04"
topic_word topics.K05 = codes "K05"
topic_word topics.K06 = codes "K06"
topic_word topics.K07 = codes "K07"
topic_word topics.K08 = codes "K08"
topic_word topics.K09 = codes "K09"
topic_word topics.K10 = codes "K10"
topic_word topics.K11 = codes "K11"
topic_word topics.K12 = codes "K12"
topic_word topics.T01 = codes "T01"
topic_word topics.T02 = codes "T02"
topic_word topics.T03 = codes "T03"

abbrev pub all_topics : List Topic
all_topics =
    topics.E01 ∷ topics.E02 ∷ topics.E03 ∷ topics.E04 ∷ topics.E05 ∷ topics.E06 ∷ topics.E07 ∷ topics.E08 ∷ topics.E09 ∷ topics.E10 ∷ topics.E11 ∷ topics.E12 ∷ topics.E13 ∷ topics.E14
    ∷ topics.K01 ∷ topics.K02 ∷ topics.K03 ∷ topics.K04 ∷ topics.K05 ∷ topics.K06 ∷ topics.K07 ∷ topics.K08 ∷ topics.K09 ∷ topics.K10 ∷ topics.K11 ∷ topics.K12
    ∷ topics.T01 ∷ topics.T02 ∷ topics.T03 ∷ []

-- the first code whose word is this text
unfoldable pub topic_named : List ℕ → Option Topic
topic_named text = find (λ topic. bytes_eq text (topic_word topic)) all_topics
