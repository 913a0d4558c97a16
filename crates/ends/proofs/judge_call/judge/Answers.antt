use Rattle.std.proofs.Common.{length, arith}
use Rattle.ends.proofs.Posts.{enough, few_post, post}
use Rattle.ends.proofs.judge_call.judge.Goals as goal

pub returns-then-work-judge_words : goal.returns-then-work-judge_words
returns-then-work-judge_words c = few_post c.args.program.now c.args.ways (length c.args.work.now) c.judge_words.result c.judge_words.ensures c.if-work-judge_words.true

pub returns : goal.returns
returns c = post c.args.program.now c.args.ways (length c.args.work.now) _ c.judge_within.ensures.not_few (enough (length c.args.work.now) _ c.judge_words.result c.judge_words.ensures c.if-work-judge_words.false (omega arith)) c.judge_within.ensures.says
