use Rattle.std.proofs.Common.{◌≡◌, ◌++◌, drop}
use Rattle.std.specs.String.{string_bytes}
use Rattle.std.specs.List.{flat_map}
use Rattle.tso_page.specs.Data.{thread_data}
use Rattle.tso_page.proofs.data.push_threads.Given as goal

abbrev pub invariant-loop-thread : goal.invariant-loop-thread
invariant-loop-thread l = string_bytes l.data ++ flat_map (thread_data l.client) (drop l.thread-index l.threads) ≡ string_bytes l.fn.data ++ flat_map (thread_data l.client) l.threads
