use Rattle.std.proofs.Common.{◌≡◌, ◌++◌, map, drop}
use Rattle.mix_waves.specs.Sending.{message_seen}
use Rattle.net_run.specs.Feeds.{post_of_message}
use Rattle.net_run.proofs.feeds.post_messages.Given as goal

-- the posts so far, and those to come, are all
abbrev pub invariant-messages : goal.invariant-messages
invariant-messages l = l.posts.items ++ map post_of_message (map message_seen (drop l.message-index l.messages)) ≡ map post_of_message (map message_seen l.messages)
