use Rattle.histories.proofs.AlikeIdle as alike
use Rattle.histories.proofs.TurnReplies as turns
use Rattle.histories.proofs.law.idle_histories_answer_alike.Goals as goal

pub returns : goal.returns
returns c = alike.idle_histories_answer_alike turns.answers_all
