-- What the sink was given so far is known from here on.
use Rattle.replay.proofs.replies.tell_behind.Given as goal

abbrev pub ghosts-tell_from : goal.ghosts-tell_from
ghosts-tell_from g a = record { first = g.K.Sink.written a.sink }
