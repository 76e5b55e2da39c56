use Rattle.stats_book.proofs.CountedBefore.{answer_after}
use Rattle.stats_book.proofs.counter.ReplyCounterCountReplies.count_answer.Goals as goal

pub returns : goal.returns
returns g c = rw (← c.self.view_is) (answer_after c.args.quantity c.args.reaps c.self.inside.share c.self.inside.since c.count_answer.new.self c.count_answer.ensures)
