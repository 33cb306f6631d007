use Rattle.std.proofs.Common.{◌≡◌, ◌≤◌, sym, subst}
use Rattle.std.specs.Prelude.{Result, IfOk, OnOk, OnErr}
use Rattle.std.specs.declared.result.Result.TheVariants.{Ok, Err}
use Rattle.wl_sigs.specs.Valid.{Valid}
use Rattle.wl_sigs.specs.Side.TheVariants.{Event}
use Rattle.wl_objects.specs.Writing.{given}
use Rattle.wl_object_map.specs.Objects.{ObjectsAreSound}
use Rattle.wl_connection.specs.Core.{Core}
use Rattle.wl_connection.specs.Sending.{after_send, numbers_of}
use Rattle.wl_server.specs.Registries.{HasRegistries}
use Rattle.wl_server.proofs.LastingObjects.{by_some_send, lasting_send}
use Rattle.wl_server.proofs.Registries.{has_sent, past_sent}
use Rattle.wl_server.proofs.server.Server.send_words.Goals as goal

-- a property of the end that accepted calls keep is kept by every call
by_result : {X E : Type 0} (P : Core → Type 0) (r : Result X E) (before now sent : Core) → OnOk r (now ≡ sent)
    → OnErr r (now ≡ before) → IfOk r (λ _. Valid before.tables) → IfOk r (λ _. ObjectsAreSound before.view)
    → (Valid before.tables → ObjectsAreSound before.view → now ≡ sent → P now) → P before → P now
by_result P (Ok x) before now sent ok err v s f h = f v s ok
by_result P (Err why) before now sent ok err v s f h = subst P (sym err) h

pub invariant_of-self : goal.invariant_of-self
invariant_of-self g c =
    let core = c.self.inside.end.core in
    let numbers = numbers_of core Event c.args.target c.args.opcode c.args.words.now in
    let list = given numbers in
    let now = c.send_words.new.self in
    let sent = after_send core Event c.args.target c.args.opcode list in
    let e = c.send_words.ensures in
    record {
      few = c.self.invariant.few;
      registries = by_result (λ (k : Core). HasRegistries k.view c.self.inside.role.registries.list) c.send_words.result core now
          sent e.ok e.err e.valid e.sound
          (λ v s is. has_sent core now c.self.inside.role.registries.list c.args.target c.args.opcode list v s is
          c.self.invariant.registries) c.self.invariant.registries;
      past = by_result (λ (k : Core). c.self.inside.role.registries.past ≤ k.view.client.births) c.send_words.result core now sent e.ok
          e.err e.valid e.sound
          (λ v s is. past_sent core now c.self.inside.role.registries.past c.args.target c.args.opcode list v is
          c.self.invariant.past) c.self.invariant.past;
      settled = c.self.invariant.settled;
      lasting = lasting_send core now c.args.target c.args.opcode numbers c.send_words.result e.ok e.err e.valid e.sound
          c.self.invariant.lasting;
      by_some = by_some_send core now c.args.target c.args.opcode numbers c.send_words.result e.ok e.err e.valid
          c.self.invariant.by_some;
    }
