use Rattle.tso_prog.specs.Views.{call_view, mode_view}
use Rattle.tso_fifo.proofs.Steps.{may_refuse-is, may_push-is, may_pop-is, option_eq-is}
use Rattle.tso_fifo.proofs.queue.Queue.may_answer.Goals as goal

pub returns-in_default-Refused : goal.returns-in_default-Refused
returns-in_default-Refused c = rw c.in_default-Refused.is-1 (λ items len front. may_refuse-is (mode_view c.args.self.mode) c.args.self.capacity items (call_view c.args.kind) c.may_refuse.result (c.may_refuse.ensures items len))

pub returns-in-Push-Done : goal.returns-in-Push-Done
returns-in-Push-Done c = rw (c.in-Push-Done.is-1, c.in-Push-Done.is-0) (λ items len front. may_push-is (mode_view c.args.self.mode) c.args.self.capacity items c.in-Push-Done.field-0-0 c.args.len len)

pub returns-in-Pop-Value : goal.returns-in-Pop-Value
returns-in-Pop-Value c = rw (c.in-Pop-Value.is-1, c.in-Pop-Value.is-0) (λ items len front. may_pop-is (mode_view c.args.self.mode) c.args.self.capacity items c.in-Pop-Value.value c.eq.result (rw front (option_eq-is c.args.front c.in-Pop-Value.value c.eq.result c.eq.ensures)))
