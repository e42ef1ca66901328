-- A client without the lines of its instructions.
use Rattle.tso_prog.specs.declared.client.Client.{Client}
use Rattle.tso_prog.specs.Clients.{ClientOf}

-- what a client is, beside its lines
abbrev pub client : Client → ClientOf
client c = record {
  capacity = c.capacity;
  mode = c.mode;
  arrays = c.arrays;
  push = c.push.instructions;
  pop = c.pop.instructions;
  prologue = c.prologue;
  threads = c.threads;
}
