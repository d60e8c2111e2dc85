use Rattle.std.proofs.Common.{List, length, take, refl, sym, subst}
use Rattle.std.proofs.lemmas.Option.{slice_get_read}
use Rattle.mix_shard.specs.Items.{Item}
use Rattle.node_core.specs.Inside.{HasFound, StandsFirst}
use Rattle.node_core.specs.Nodes.{all_held}
use Rattle.node_core.proofs.Sending.{held_more, named_gives_way, named_only, named_stays, nothing_more}
use Rattle.node_core.proofs.node.sending.earlier_due.Goals as goal

pub returns-in_default : goal.returns-in_default
returns-in_default g c =
    let shard = c.index-shards-place.result in
    let there = slice_get_read c.args.shards.now (length c.args.shards.now) c.args.place c.index-shards-place.result refl c.requires.there c.index-shards-place.is in
    subst (λ (l : List Item). HasFound c.args.moment c.args.shards.now l c.args.first) (sym (held_more c.args.shards.now c.args.place shard there))
    (nothing_more c.args.moment c.args.shards.now (all_held (take c.args.place c.args.shards.now)) shard.state.held c.args.first c.requires.so_far c.in_default.ensures.none)

pub returns-in_default-first : goal.returns-in_default-first
returns-in_default-first g c =
    let shard = c.index-shards-place.result in
    let there = slice_get_read c.args.shards.now (length c.args.shards.now) c.args.place c.index-shards-place.result refl c.requires.there c.index-shards-place.is in
    let found = c.in-Some.ensures.first in
    subst (λ (l : List Item). StandsFirst c.args.moment c.args.shards.now l c.args.place c.in-Some.next) (sym (held_more c.args.shards.now c.args.place shard there))
    (named_only c.args.moment c.args.shards.now (all_held (take c.args.place c.args.shards.now)) shard.state.held c.args.first c.args.place c.in-Some.next shard found.0
    c.in_default-first.is c.requires.so_far there refl found.1 found.2)

pub returns-then-precedes : goal.returns-then-precedes
returns-then-precedes g c =
    let shard = c.index-shards-place.result in
    let there = slice_get_read c.args.shards.now (length c.args.shards.now) c.args.place c.index-shards-place.result refl c.requires.there c.index-shards-place.is in
    let found = c.in-Some.ensures.first in
    subst (λ (l : List Item). HasFound c.args.moment c.args.shards.now l c.args.first) (sym (held_more c.args.shards.now c.args.place shard there))
    (named_stays c.args.moment c.args.shards.now (all_held (take c.args.place c.args.shards.now)) shard.state.held c.args.first c.in-Some-first.field-0-0
    c.in-Some-first.other c.in-Some.next found.0 c.in-Some-first.is c.requires.so_far found.1 found.2 (c.if-precedes.ensures.yes refl))

pub returns-else-precedes : goal.returns-else-precedes
returns-else-precedes g c =
    let shard = c.index-shards-place.result in
    let there = slice_get_read c.args.shards.now (length c.args.shards.now) c.args.place c.index-shards-place.result refl c.requires.there c.index-shards-place.is in
    let found = c.in-Some.ensures.first in
    subst (λ (l : List Item). StandsFirst c.args.moment c.args.shards.now l c.args.place c.in-Some.next) (sym (held_more c.args.shards.now c.args.place shard there))
    (named_gives_way c.args.moment c.args.shards.now (all_held (take c.args.place c.args.shards.now)) shard.state.held c.args.first c.in-Some-first.field-0-0 c.args.place
    c.in-Some-first.other c.in-Some.next shard found.0 c.in-Some-first.is c.requires.so_far there refl found.1 found.2 (c.if-precedes.ensures.no refl))
