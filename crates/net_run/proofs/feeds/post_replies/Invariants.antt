use Rattle.std.proofs.Common.{◌≡◌, ◌++◌, map, drop}
use Rattle.net_run.specs.Feeds.{post_of_reply}
use Rattle.net_run.proofs.feeds.post_replies.Given as goal

-- the posts so far, and those to come, are all
abbrev pub invariant-replies : goal.invariant-replies
invariant-replies l = l.posts.items ++ map post_of_reply (drop l.reply-index l.replies) ≡ map post_of_reply l.replies
