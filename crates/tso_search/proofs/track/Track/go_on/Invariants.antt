use Rattle.std.proofs.Common.{vec_len}
use Rattle.tso_search.proofs.track.Track.go_on.Given as goal

abbrev pub decreases-loop-number : goal.decreases-loop-number
decreases-loop-number l = vec_len l.self.met
