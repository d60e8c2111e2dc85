use Rattle.std.proofs.Common.{length}
use Rattle.gate_log.proofs.Outside.{others_tried, others_failed, others_synced, written_synced, outside_tried, outside_failed, outside_synced, image_same, image_synced}
use Rattle.gate_log.proofs.steps.write_synced.Goals as goal

pub returns-in_err-write-clause-others : goal.returns-in_err-write-clause-others
returns-in_err-write-clause-others g c t =
    others_tried c.args.area c.args.at (length c.args.bytes.now) (g.R.Rack.state c.args.rack.now) (g.R.Rack.state c.write.new.self) (c.write.ensures.tried t) (c.write.ensures.moment t)

pub returns-in_err-write-clause-each_moment : goal.returns-in_err-write-clause-each_moment
returns-in_err-write-clause-each_moment g c t rest =
    outside_tried c.args.area c.args.at (length c.args.bytes.now) (g.R.Rack.state c.args.rack.now) (g.R.Rack.state c.write.new.self) (c.write.ensures.tried t) (c.write.ensures.moment t) rest (c.requires.place t)

pub returns-in_err-sync-clause-others : goal.returns-in_err-sync-clause-others
returns-in_err-sync-clause-others g c t =
    others_failed c.args.area c.args.at (length c.args.bytes.now) (g.R.Rack.state c.args.rack.now) (g.R.Rack.state c.write.new.self) (c.write.ensures.tried t) (c.write.ensures.moment t)
    (g.R.Rack.state c.sync.new.self) (c.in_err-sync.ensures.failed t) (c.sync.ensures.moment t)

pub returns-in_err-sync-clause-each_moment : goal.returns-in_err-sync-clause-each_moment
returns-in_err-sync-clause-each_moment g c t rest =
    outside_failed c.args.area c.args.at (length c.args.bytes.now) (g.R.Rack.state c.args.rack.now) (g.R.Rack.state c.write.new.self) (c.write.ensures.tried t) (c.write.ensures.moment t) rest (c.requires.place t)
    (g.R.Rack.state c.sync.new.self) (c.in_err-sync.ensures.failed t) (c.sync.ensures.moment t)

pub returns-clause-others : goal.returns-clause-others
returns-clause-others g c t =
    others_synced c.args.area c.args.at (length c.args.bytes.now) (g.R.Rack.state c.args.rack.now) (g.R.Rack.state c.write.new.self) (c.write.ensures.tried t) (c.write.ensures.moment t)
    (g.R.Rack.state c.sync.new.self) (c.in_ok-sync.ensures.synced t) (c.sync.ensures.moment t)

pub returns-clause-each_moment : goal.returns-clause-each_moment
returns-clause-each_moment g c t rest =
    outside_synced c.args.area c.args.at (length c.args.bytes.now) (g.R.Rack.state c.args.rack.now) (g.R.Rack.state c.write.new.self) (c.write.ensures.tried t) (c.write.ensures.moment t) rest (c.requires.place t)
    (g.R.Rack.state c.sync.new.self) c.requires.area (c.write.ensures.images t) (c.in_ok-sync.ensures.synced t) (c.sync.ensures.moment t)

pub returns-clause-written : goal.returns-clause-written
returns-clause-written g c t =
    written_synced c.args.area c.args.at (length c.args.bytes.now) (g.R.Rack.state c.args.rack.now) (g.R.Rack.state c.write.new.self) (c.write.ensures.tried t) (c.write.ensures.moment t)
    (g.R.Rack.state c.sync.new.self) _ (c.in_ok-write.ensures.written t) (c.in_ok-sync.ensures.synced t)

pub returns-in_err-sync-clause-image : goal.returns-in_err-sync-clause-image
returns-in_err-sync-clause-image g c t =
    image_same c.args.area (g.R.Rack.state c.write.new.self).areas (g.R.Rack.state c.sync.new.self).areas (c.in_err-sync.ensures.failed t) (c.write.ensures.images t c.args.area c.requires.area)

pub returns-clause-image : goal.returns-clause-image
returns-clause-image g c t = image_synced c.args.area (g.R.Rack.state c.write.new.self).areas (g.R.Rack.state c.sync.new.self).areas (c.in_ok-sync.ensures.synced t)
