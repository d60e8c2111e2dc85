-- What the client sends over its lines.
use Rattle.std.specs.Prelude.{◌≡◌, ℕ, List, [], ◌∷◌, map, if◌then◌else◌}
use Rattle.std.specs.List.{flat_map}
use Rattle.std.specs.Str.{bytes_eq}
use Rattle.mix_waves.specs.Sending.{Sending}
use Rattle.node_actors.specs.declared.actors.feeds.Feed.{Feed}
use Rattle.reply_blocks.specs.declared.answering.Answered.{Answered}
use Rattle.net_run.specs.declared.feeds.Post.{Post}

-- what is sent for a message, and for a reply
abbrev pub post_of_message : Sending → Post
post_of_message message = record { to = message.first; packet = message.packet }

abbrev pub post_of_reply : Answered → Post
post_of_reply reply = record { to = reply.first; packet = reply.packet }

-- the packet, where it goes to the node of this id
abbrev pub packet_to : List ℕ → Post → List (List ℕ)
packet_to id post = if bytes_eq post.to id then post.packet ∷ [] else []

-- the packets that go there, in their order
abbrev pub packets_to : List ℕ → List Post → List (List ℕ)
packets_to id posts = flat_map (packet_to id) posts

-- the feed over a line of the client: just the packets for the node at its other end
pub record IsFeedFor {O : Type 0} (posts : List Post) (line : List ℕ × O) (feed : Feed O) : Type 0 where
  pub link : feed.link ≡ line.1
  pub packets : map (λ packet. packet.items) feed.packets.items ≡ packets_to line.0 posts
