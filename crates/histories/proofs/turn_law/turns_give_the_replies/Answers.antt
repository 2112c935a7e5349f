use Rattle.histories.proofs.TurnReplies as turns
use Rattle.histories.proofs.turn_law.turns_give_the_replies.Goals as goal

pub returns : goal.returns
returns c = turns.answers_all
