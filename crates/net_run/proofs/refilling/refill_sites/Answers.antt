use Rattle.std.proofs.Common.{◌≡◌, ◌+◌, ◌++◌, ◌∷◌, [], All, List, length, map, reverse, refl, sym, ap, subst, ◌∙◌, arith}
use Rattle.std.specs.List.{AllZip}
use Rattle.std.proofs.lemmas.List.{append-nil}
use Rattle.turn_lock.proofs.Lists.{all_cons}
use Rattle.node_run.proofs.Streets.{both_end, ends_zip}
use Rattle.net_run.specs.Refilling.{AreAllKept, AreRefilled, ArePutBack, HasRoomFor}
use Rattle.net_run.proofs.Stacks.{empty_list, gone_more, no_rest, reverse_more}
use Rattle.net_run.proofs.refilling.refill_sites.Goals as goal

pub sites-init : goal.sites-init
sites-init g c = record {
  gone = [];
  lists = [];
  refilled = [];
  waiting_are = sym (append-nil c.args.waiting.items);
  shards_are = sym (append-nil c.args.shards.items);
  are = refl;
  each = tt;
  kept = λ k d low. absurd (omega (arith, low));
  fit = c.requires.fit;
  room = c.requires.room;
  capacity = refl;
}

pub unreachable-requires : goal.unreachable-requires
unreachable-requires g c =
    let before = c.sites.invariant in
    let none : c.sites.shards.items ≡ [] = empty_list c.sites.shards.items (let a = c.in_default-pop.ensures.cases in omega (arith, a, c.sites.shards.ok.0)) in
    both_end HasRoomFor c.sites.waiting.items c.pop.new.self.items c.in-Some.site c.sites.shards.items c.in-Some.ensures.items none before.fit

pub refill_site-requires : goal.refill_site-requires
refill_site-requires g c =
    (ends_zip HasRoomFor c.sites.waiting.items c.pop.new.self.items c.in-Some.site c.sites.shards.items c.pop-in-Some.new.self.items c.in-Some-pop.list
    c.in-Some.ensures.items c.in-Some-pop.ensures.items c.sites.invariant.fit).0

pub sites-preserved : goal.sites-preserved
sites-preserved g c =
    let before = c.sites.invariant in
    let zipped = ends_zip HasRoomFor c.sites.waiting.items c.pop.new.self.items c.in-Some.site c.sites.shards.items c.pop-in-Some.new.self.items c.in-Some-pop.list
    c.in-Some.ensures.items c.in-Some-pop.ensures.items before.fit in
    let is = c.refill_site.ensures in
    let pushed = c.push_reserved.ensures in
    let cases = c.in-Some.ensures.cases in
    record {
      gone = c.in-Some.site ∷ before.gone;
      lists = c.in-Some-pop.list ∷ before.lists;
      refilled = c.refill_site.result ∷ before.refilled;
      waiting_are = gone_more c.args.waiting.items c.sites.waiting.items c.pop.new.self.items before.gone c.in-Some.site before.waiting_are c.in-Some.ensures.items;
      shards_are = gone_more c.args.shards.items c.sites.shards.items c.pop-in-Some.new.self.items before.lists c.in-Some-pop.list before.shards_are c.in-Some-pop.ensures.items;
      are = reverse_more c.push_reserved.new.self.items c.sites.sites.items c.refill_site.result pushed.items ∙ ap (λ sites. c.refill_site.result ∷ sites) before.are;
      each = (record { used = is.used; idle = is.idle }, before.each);
      kept = all_cons (AreAllKept g.R.Rack.tells g.S.Suite.meaning) c.in-Some-pop.list before.lists is.kept before.kept;
      fit = zipped.1;
      room = (let a = before.room in let b = pushed.len in let d = pushed.capacity in omega (arith, cases));
      capacity = pushed.capacity ∙ before.capacity;
    }

pub returns-clause-put : goal.returns-clause-put
returns-clause-put g c =
    let before = c.sites.invariant in
    let none : c.sites.waiting.items ≡ [] = empty_list c.sites.waiting.items (let a = c.in_default.ensures.cases in omega (arith, a, c.sites.waiting.ok.0)) in
    let no_more = no_rest HasRoomFor c.sites.waiting.items c.sites.shards.items none before.fit in
    record {
      refilled = before.refilled;
      are = before.are;
      each = subst (λ ws. AreRefilled g.R.Rack.state ws c.args.shards.items before.refilled) (sym (before.waiting_are ∙ ap (λ ws. ws ++ before.gone) none))
          (subst (λ ls. AreRefilled g.R.Rack.state before.gone ls before.refilled) (sym (before.shards_are ∙ ap (λ ls. ls ++ before.lists) no_more)) before.each);
    }

pub returns-clause-kept : goal.returns-clause-kept
returns-clause-kept g c =
    let before = c.sites.invariant in
    let none : c.sites.waiting.items ≡ [] = empty_list c.sites.waiting.items (let a = c.in_default.ensures.cases in omega (arith, a, c.sites.waiting.ok.0)) in
    let no_more = no_rest HasRoomFor c.sites.waiting.items c.sites.shards.items none before.fit in
    subst (All (AreAllKept g.R.Rack.tells g.S.Suite.meaning)) (sym (before.shards_are ∙ ap (λ ls. ls ++ before.lists) no_more)) before.kept
