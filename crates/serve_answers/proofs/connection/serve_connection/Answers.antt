use Rattle.std.proofs.Common.{Err, refl, sym, ◌∙◌}
use Rattle.http_words.specs.declared.{asked.Asked.TheVariants.PostVote, outcome.Outcome.TheVariants.Replied}
use Rattle.serve_answers.proofs.{Caused.{status_caused, vote_caused}, GoneOn.vote_goes, Telling.request_served}
use Rattle.serve_answers.proofs.Telling.{served}
use Rattle.serve_answers.proofs.connection.serve_connection.Goals as goal

pub returns-in-Vote-clause-serves : goal.returns-in-Vote-clause-serves
returns-in-Vote-clause-serves g c =
    let read = c.in-Vote.ensures.reads in
    let reply = c.take_vote-reply in
    request_served _ _ _ _ (Replied reply.result) _ _ _ _ _ _ c.tell.result read.request PostVote read.request.path
    (sym read.asks) refl read.reads (reply.ensures.takes read.request.body read.is) c.tell.ensures.tells

pub returns-in-Vote-clause-verifier : goal.returns-in-Vote-clause-verifier
returns-in-Vote-clause-verifier g c =
    let read = c.in-Vote.ensures.reads in
    let reply = c.take_vote-reply in
    status_caused _ _ _ _ _ _ reply.result c.tell.result
    (vote_caused _ _ _ _ _ _ _ _ _ read.request.body reply.result (reply.ensures.takes read.request.body read.is))
    c.tell.ensures.tells

pub returns-in-Vote-clause-goes : goal.returns-in-Vote-clause-goes
returns-in-Vote-clause-goes g c =
    let read = c.in-Vote.ensures.reads in
    let reply = c.take_vote-reply in
    vote_goes _ _ _ _ _ _ read.request.body reply.result _ _ _ (reply.ensures.takes read.request.body read.is)

pub returns-in-Ok-clause-serves : goal.returns-in-Ok-clause-serves
returns-in-Ok-clause-serves g c =
    let asked = c.in-Request in
    let read = asked.ensures.reads in
    request_served _ _ _ _ c.in-Ok.outcome _ _ _ _ _ _ c.tell-in-Ok.result
    (record { method = read.method; path = asked.path; body = asked.body }) asked.asked _ read.asks
    c.as_bytes-path.ensures read.reads c.in-Ok.ensures.does c.tell-in-Ok.ensures.tells

pub returns-in-Some-clause-serves : goal.returns-in-Some-clause-serves
returns-in-Some-clause-serves g c =
    served _ _ _ _ (Replied c.in-Some.reply) _ _ _ _ _ _ c.tell-in-Some.result
    (record {
      read = Err c.in-Unread.fault;
      reads = c.in-Unread.ensures.reads;
      does = (c.in-Some.reply, refl, sym c.reply_to.ensures ∙ c.in-Some.is, refl);
    })
    c.tell-in-Some.ensures.tells
