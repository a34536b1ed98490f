-- A line feed ends what was said.
use Rattle.std.proofs.Common.{◌∙◌, arith}
use Rattle.transcript.specs.Replies.{words, text}
use Rattle.reply_text.specs.Replies.{reply_of}
use Rattle.reply_text.proofs.Replies.{line-none, line-some}
use Rattle.reply_text.proofs.reply_line.reply_bytes.Goals as goal

pub returns-then-len-before-clause-text : goal.returns-then-len-before-clause-text
unfolding text
returns-then-len-before-clause-text c =
    line-none c.args.out.now.items (words (reply_of c.args.reply.now)) c.reply_words.new.out.items c.in_ok-reply_words.ensures.text
    (omega (arith, c.len.ensures, c.if-len-before.true, c.len-before.ensures, c.reply_words.new.out.ok.0, c.args.out.now.ok.0))

pub returns-clause-text : goal.returns-clause-text
unfolding text
returns-clause-text c =
    c.in_ok-push.ensures.items
    ∙ line-some c.args.out.now.items (words (reply_of c.args.reply.now)) c.reply_words.new.out.items c.in_ok-reply_words.ensures.text
    (λ same. c.if-len-before.false (omega (arith, c.len.ensures, same, c.len-before.ensures, c.reply_words.new.out.ok.0, c.args.out.now.ok.0)))
