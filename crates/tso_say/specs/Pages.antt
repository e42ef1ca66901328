-- What is said of a code, and of a program that is accepted.
use Rattle.std.specs.Prelude.{ℕ, Bool, true, false, List, [], ◌++◌, codes, decimal}
use Rattle.tso_say.specs.Said.{meaning_of, mended_of, sample_of}
use Rattle.tso_say.specs.Words.{topic_word}
use Rattle.tso_say.specs.declared.topic.Topic.{Topic}
use Rattle.tso_flow.specs.Calls.{step_limit}
use Rattle.tso_print.specs.Layout.{printed}
use Rattle.tso_prog.specs.Client.{client}
use Rattle.tso_prog.specs.declared.client.Client.{Client}

-- behind what is there: the code, what it means, a text that has it, and the mended text
abbrev pub page_behind : List ℕ → Topic → List ℕ
page_behind there topic =
    there ++ topic_word topic ++ codes ": " ++ meaning_of topic ++ codes "\n\nRefused:\n\n" ++ sample_of topic ++ codes "\nMended:\n\n" ++ mended_of topic

abbrev pub page_of : Topic → List ℕ
page_of topic = page_behind [] topic

-- the bound on the labels of a run
abbrev pub limit_text : Client → List ℕ
limit_text c = codes "accepted\nstep_limit: " ++ (decimal (step_limit c) ++ codes "\n")

-- the canonical text alone where it is asked for, and else that the client is accepted
abbrev pub parsed_text : Bool → Client → List ℕ
parsed_text true c = printed (client c)
parsed_text false c = limit_text c
