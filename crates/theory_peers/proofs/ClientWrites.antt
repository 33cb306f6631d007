-- The client's calls that write are steps of a run.
use Rattle.std.proofs.Common.{◌≡◌, ℕ, ◌≤◌, ◌<◌, ◌^◌, ◌⊎◌, Bool, true, false, cond, List, [], ◌∷◌, ◌++◌, length, map, inl, inr, refl}
use Rattle.std.proofs.Common.{sym, ap, subst, ◌∙◌, arith}
use Rattle.std.specs.Prelude.{bytes_eq, codes, nat_le, not, option_map, ◌&&◌}
use Rattle.std.specs.declared.option.Option.{Option}
use Rattle.std.specs.declared.option.Option.TheVariants.{None, Some}
use Rattle.std.specs.declared.result.Result.{Result}
use Rattle.std.specs.declared.result.Result.TheVariants.{Ok, Err}
use Rattle.std.proofs.lemmas.Bool.{eqb-true}
use Rattle.std.proofs.lemmas.Bool.Decides.{nat_tests}
use Rattle.wl_wire.specs.declared.kind.Iface.{Iface}
use Rattle.wl_wire.specs.Spelling.{IsText}
use Rattle.wl_sigs.specs.Fixed as fixed
use Rattle.wl_sigs.specs.Fixed.{registry}
use Rattle.wl_sigs.specs.Side.TheVariants.{Request}
use Rattle.wl_sigs.specs.Destroys.TheVariants.{Nothing}
use Rattle.wl_sigs.specs.Tables as sigs
use Rattle.wl_sigs.specs.Tables.{Interface, interface_at, place_of, signature_at}
use Rattle.wl_sigs.specs.Valid.{Valid}
use Rattle.wl_message.specs.Outgoing.{queued}
use Rattle.wl_object_map.specs.declared.object.Entry.{Entry}
use Rattle.wl_object_map.specs.declared.object.Maker.TheVariants.{Client}
use Rattle.wl_object_map.specs.declared.object.Object.{Object}
use Rattle.wl_object_map.specs.declared.object.State.TheVariants as states
use Rattle.wl_object_map.specs.Objects.{Objects, ObjectsAreSound, can_open, look, next_id, opened_at}
use Rattle.wl_objects.specs.declared.error.SendError.{SendError}
use Rattle.wl_objects.specs.declared.error.SendError.TheVariants as refusals
use Rattle.wl_objects.specs.Messages.{NewObject, after, checked, ended_id, live_row, same_iface}
use Rattle.wl_objects.specs.Writing.{Given, bind_values, is_live_as, message_bytes, wired}
use Rattle.wl_connection.specs.Core.{Core}
use Rattle.wl_connection.specs.Sending.{after_checked, after_send, made_at, opening_answer, send_answer}
use Rattle.wl_client.specs.Calls.{after_bind, bind_answer, bind_at, bound_object, can_bind, iface_or, version_fits}
use Rattle.wl_client.specs.declared.globals.Global.{Global as Remembered}
use Rattle.wl_client.specs.State as client
use Rattle.wl_client.specs.State.{State}
use Rattle.theory_connection.specs.Meant.{Born, Known, born_of_entry, client_birth, made_in, objects}
use Rattle.theory_connection.specs.Meant.{tokens, wire}
use Rattle.theory_connection.specs.World.{Each, IfThere, Open}
use Rattle.theory_connection.specs.Flight.{Fresh, client_rows, row_of_entry, as_row}
use Rattle.theory_connection.specs.Runs.{FitsWords}
use Rattle.theory_connection.proofs.Bridges.{next_fresh}
use Rattle.theory_connection.proofs.Calls.{Checked, LiveAt, is_checked, live_as, tokens_all}
use Rattle.theory_connection.proofs.ClientBindMove.{bind_message, the_bound}
use Rattle.theory_connection.proofs.ClientSendMove.{if_map, made_same}
use Rattle.theory_connection.proofs.EndedObject.{after_is, ends_have, if_by}
use Rattle.theory_connection.proofs.Places.{bytes_same, name_text, place_there}
use Rattle.theory_connection.proofs.ReadAsMeant.{made_of}
use Rattle.theory_connection.proofs.RequestWritten.{asked_core}
use Rattle.theory_connection.proofs.RowsAfterMessage.{client_after, held_row}
use Rattle.theory_connection.proofs.TwoRanges.{row_word}
use Rattle.theory_connection.proofs.WholeInFlight.{OpenRow, each_by}
use Rattle.theory_connection.proofs.Written.{CallIs, accepted_call, call_ends, call_is, new_birth, new_id, opens}
use Rattle.theory_connection.proofs.Written.{the_call, the_made, the_new}
use Rattle.wl_check.specs.Rules.{version_of}
use Rattle.theory_peers.specs.FollowsClient.{MayBeAsked}
use Rattle.theory_peers.specs.ClientRun.{HasVersionsAtClient}
use Rattle.theory_peers.specs.WrittenByClient.{BindsAsStep, SendsRequestAsStep}

-- ---- sending

open_live : (v : Objects) (x : Known) → LiveAt v x → OpenRow (client_rows v) x
open_live v x l = ap (option_map (row_of_entry x.id)) l.there
    ∙ ap (λ s. Some (as_row s (born_of_entry x.id l.entry))) l.live
    ∙ ap (λ (b : Born). Some (Open b)) l.same

-- the new object, if there is one, is fresh
fresh_new : (v : Objects) (new : Known) (o : Option Known) → ObjectsAreSound v → new.id ≡ next_id Client v
    → new.born.birth ≡ client_birth v.client.births
    → (o ≡ None) ⊎ (o ≡ Some new) → IfThere (λ (x : Known). can_open Client v ≡ true) o
    → IfThere (Fresh (client_rows v)) o
fresh_new v new None s i b h c = tt
fresh_new v new (Some x) s i b h c =
    let e : x ≡ new = elim h [ inl p ↦ absurd (cc p) | inr p ↦ cc ] in
    let id : x.id ≡ next_id Client v = ap (λ (k : Known). k.id) e ∙ i in
    let birth : x.born.birth ≡ client_birth v.client.births = ap (λ (k : Known). k.born.birth) e ∙ b in
    next_fresh v x s c id birth

-- the state that the call leaves is that after the message
send_left : (core : Core) (target : Object) (opcode : ℕ) (given : List Given) (signature : sigs.MessageSignature)
    → Valid core.tables → checked core.outbox.limit.bytes core.tables Request core.view target opcode given
    ≡ Ok signature
    → (c : Checked core.outbox.limit.bytes core.tables Request core.view target opcode given signature)
    (k : CallIs core Request target opcode given signature c.entry)
    → after_send core Request target opcode given
    ≡ asked_core core (the_call core Request c.entry target opcode given signature)
send_left core target opcode given signature v e c k =
    let m = the_call core Request c.entry target opcode given signature in
    let mk = made_same core Request target given signature c.entry c.there ∙ k.made_is in
    let t = sym (tokens_all core.view (the_new core Request c.entry given signature) given) in
    let id = ended_id signature.destroys target.id (map (wired 0) given) in
    ap (after_checked core Request target opcode given) e
    ∙ ((λ i. record core {
      view = after Request core.view (mk i) signature.destroys id;
      outbox = record core.outbox {
        messages = core.outbox.messages
            ++ queued (message_bytes target.id opcode (k.wire_is i)) (t i) ∷ [];
      };
    })
    ∙ (λ i. record core {
      view = after_is Request core.view (option_map made_of (made_in m.args)) signature.destroys id m.ends
          (call_ends core Request target opcode given signature v c k) i;
      outbox = record core.outbox {
        messages = core.outbox.messages
            ++ queued (message_bytes target.id opcode (map wire m.args)) (tokens m.args) ∷ [];
      };
    }))

pub sends_request_step : (state : State) (target : Object) (opcode : ℕ) (given : List Given) (new : Option Object)
    → Valid state.core.tables → ObjectsAreSound state.core.view → state.core.failed ≡ false → Each FitsWords given
    → send_answer state.core Request target opcode given ≡ Ok new → SendsRequestAsStep state target opcode given
sends_request_step state target opcode given new v sound lives g h =
    let core = state.core in
    let view = core.view in
    let a = accepted_call core Request target opcode given new lives h in
    let c = is_checked core.outbox.limit.bytes core.tables Request view target opcode given a.signature a.checks in
    let k = call_is core Request target opcode given a.signature v sound g c in
    let o = opens core Client (made_at core Request target a.signature given) new a.opens_it in
    let m = the_call core Request c.entry target opcode given a.signature in
    let can = if_map (can_open Client view ≡ true) made_of (made_in m.args)
    (subst (IfThere (λ (x : NewObject). can_open Client view ≡ true))
    (made_same core Request target given a.signature c.entry c.there ∙ k.made_is) o.can) in
    let mk = the_made core Request c.entry given a.signature in
    let fresh = fresh_new view (the_new core Request c.entry given a.signature) (made_in m.args) sound
    (new_id Client view mk) (new_birth Client view mk) k.new can in
    let left = send_left core target opcode given a.signature v a.checks c k in
    let opens_it = open_live view m.target (record { entry = c.entry; there = c.there; same = refl; live = c.live }) in
    let args = each_by (LiveAt view) (OpenRow (client_rows view)) (open_live view) (objects m.args) k.live in
    let opened : IfThere (OpenRow (client_rows view)) m.ends =
    ends_have (OpenRow (client_rows view)) core.tables Request m k.fits_it opens_it args in
    record {
      request = m;
      may = record {
        fits = k.fits_it;
        target = opens_it;
        args = args;
        new = fresh;
        binds = λ is. absurd (cc (is, c.hidden));
      };
      rows = ap (λ (x : Core). client_rows x.view) left
          ∙ client_after view (made_in m.args) m.ends fresh (if_by (λ x e. held_row view x (inl e)) m.ends opened);
      writes = ap (λ (x : Core). x.outbox.messages) left;
    }

-- ---- binding

-- what follows from an accepted bind
record IsBound (st : State) (target : Object) (name : ℕ) (iface : List ℕ) (version : ℕ) (new : Option Object) : Type 0
  where
    entry : Entry
    there : look st.core.view target.id ≡ Some entry
    live : entry.state ≡ states.Live
    registers : same_iface entry.iface registry ≡ true
    binds : can_bind st.core.tables iface version (client.global_of st.globals name) ≡ true
    opens_it : opening_answer st.core Client (Some (bound_object st name version)) ≡ Ok new

abbrev the_bind : sigs.MessageSignature
the_bind = fixed.message (codes "bind") 1 (fixed.uint ∷ fixed.new None ∷ []) Nothing

live_found : (birth : ℕ) (o : Option Entry) (b : Bool) (e : Entry) → is_live_as birth o ≡ b → cond b o None ≡ Some e
    → (o ≡ Some e) × (e.state ≡ states.Live)
live_found birth o true e h k =
    let l = live_as birth o h in
    let same : l.entry ≡ e = cc (l.there, k) in
    (k, ap (λ (x : Entry). x.state) (sym same) ∙ l.live)
live_found birth o false e h k = absurd (cc k)

all_three : (a b c : Bool) (x y z : SendError) (r : Result (Option Object) SendError) (new : Option Object)
    → cond (not a) (Err x) (cond (not b) (Err y) (cond c r (Err z))) ≡ Ok new → (a ≡ true) × (b ≡ true) × (r ≡ Ok new)
all_three true true true x y z r new h = (refl, refl, h)
all_three true true false x y z r new h = absurd (cc h)
all_three true false c x y z r new h = absurd (cc h)
all_three false b c x y z r new h = absurd (cc h)

bound_at : (st : State) (target : Object) (name : ℕ) (iface : List ℕ) (version : ℕ) (new : Option Object)
    (o : Option Entry) → live_row st.core.view target ≡ o → bind_at st name iface version o ≡ Ok new
    → IsBound st target name iface version new
bound_at st target name iface version new None e h = absurd (cc h)
bound_at st target name iface version new (Some entry) e h =
    let l = live_found target.birth (look st.core.view target.id) _ entry refl e in
    let t = all_three (same_iface entry.iface registry)
    (can_bind st.core.tables iface version (client.global_of st.globals name)) _ _ _ _ _ new h in
    record { entry = entry; there = l.0; live = l.1; registers = t.0; binds = t.1; opens_it = t.2 }

is_bound : (st : State) (target : Object) (name : ℕ) (iface : List ℕ) (version : ℕ) (new : Option Object)
    → st.core.failed ≡ false → bind_answer st target name iface version ≡ Ok new
    → IsBound st target name iface version new
is_bound st target name iface version new l h =
    bound_at st target name iface version new (live_row st.core.view target) refl
    (sym (ap (λ (b : Bool). cond b (Err refusals.Failed)
    (bind_at st name iface version (live_row st.core.view target))) l) ∙ h)

-- the remembered global that a bind names
record NamesGlobal (tables : List Interface) (gs : List Remembered) (iface : List ℕ) (version name : ℕ) : Type 0 where
  global : Remembered
  there : client.global_of gs name ≡ Some global
  interface : Interface
  place : interface_at tables global.iface.0 ≡ Some interface
  named : interface.name ≡ iface
  some : 1 ≤ version
  most : version ≤ global.version
  within : version ≤ interface.version

and_all : (a b c d : Bool) → (a && (b && (c && d))) ≡ true → (a ≡ true) × (b ≡ true) × (c ≡ true) × (d ≡ true)
and_all true true true d h = (refl, refl, refl, h)
and_all true true false d h = absurd (cc h)
and_all true false c d h = absurd (cc h)
and_all false b c d h = absurd (cc h)

names_in : (tables : List Interface) (gs : List Remembered) (iface : List ℕ) (version name : ℕ) (g : Remembered)
    (o : Option Interface) → client.global_of gs name ≡ Some g → interface_at tables g.iface.0 ≡ o
    → version_fits version g.version o iface ≡ true → NamesGlobal tables gs iface version name
names_in tables gs iface version name g None e p h = absurd (cc h)
names_in tables gs iface version name g (Some i) e p h =
    let a = and_all (bytes_eq i.name iface) (nat_le 1 version) (nat_le version g.version) _ h in
    record {
      global = g;
      there = e;
      interface = i;
      place = p;
      named = bytes_same i.name iface a.0;
      some = let q = a.1 in grind (arith, nat_tests, q);
      most = let q = a.2 in grind (arith, nat_tests, q);
      within = let q = a.3 in grind (arith, nat_tests, q);
    }

names_at : (tables : List Interface) (gs : List Remembered) (iface : List ℕ) (version name : ℕ) (o : Option Remembered)
    → client.global_of gs name ≡ o → can_bind tables iface version o ≡ true
    → NamesGlobal tables gs iface version name
names_at tables gs iface version name None e h = absurd (cc h)
names_at tables gs iface version name (Some g) e h =
    names_in tables gs iface version name g (interface_at tables g.iface.0) e refl h

same_is : (a b : Iface) → same_iface a b ≡ true → a ≡ b
same_is a b h = let e : a.0 ≡ b.0 = eqb-true a.0 b.0 h in λ i. record { 0 = e i }

open_row : (v : Objects) (id : ℕ) (e : Entry) → look v id ≡ Some e → e.state ≡ states.Live
    → (client_rows v).rows id ≡ Some (Open (born_of_entry id e))
open_row v id e h l = ap (option_map (row_of_entry id)) h ∙ ap (λ s. Some (as_row s (born_of_entry id e))) l

bind_left : (st : State) (entry : Entry) (target : Object) (name : ℕ) (iface : List ℕ) (version : ℕ)
    (g : Remembered) → client.global_of st.globals name ≡ Some g
    → after_bind st target name iface version ≡ client.with_core st
    (asked_core st.core (bind_message st.core.view entry target name iface version g.iface))
bind_left st entry target name iface version g e =
    λ i. record st {
      core = record st.core {
        view = opened_at st.core.view (next_id Client st.core.view) (iface_or (e i)) version;
        outbox = record st.core.outbox {
          messages = st.core.outbox.messages
              ++ queued (message_bytes target.id 0 (bind_values name iface version (next_id Client st.core.view))) [] ∷ [];
        };
      };
    }

bind_may : (state : State) (target : Object) (name : ℕ) (iface : List ℕ) (version : ℕ) (new : Option Object)
    → Valid state.core.tables → ObjectsAreSound state.core.view → HasVersionsAtClient (client_rows state.core.view)
    → name < 2 ^ 32 → version < 2 ^ 32 → (b : IsBound state target name iface version new)
    (n : NamesGlobal state.core.tables state.globals iface version name) → can_open Client state.core.view ≡ true
    → MayBeAsked state.core.tables (client_rows state.core.view) state.globals
    (bind_message state.core.view b.entry target name iface version n.global.iface)
bind_may state target name iface version new valid sound versions name_word version_word b n can =
    let v = state.core.view in
    let tables = state.core.tables in
    let is_name = valid.names_distinct.interfaces_named n.global.iface.0 n.interface n.place in
    let text : IsText iface = subst IsText n.named (name_text n.interface.name is_name) in
    let short : length iface ≤ 256 = subst (λ (l : List ℕ). length l ≤ 256) n.named is_name.few in
    let place : place_of tables iface ≡ Some n.global.iface =
    ap (place_of tables) (sym n.named) ∙ place_there tables valid n.global.iface n.interface n.place in
    let reg : b.entry.iface ≡ registry = same_is b.entry.iface registry b.registers in
    let x : Known = the_bound v version n.global.iface in
    let fresh = next_fresh v x sound can refl refl in
    let low = row_word v target.id b.entry sound b.there in
    let bind_there : signature_at tables b.entry.iface.0 Request 0 ≡ Some the_bind =
    ap (λ (i : Iface). signature_at tables i.0 Request 0) reg ∙ registry_bind tables valid in
    let version_is : version_of tables n.global.iface ≡ n.interface.version = rw n.place refl in
    let opens_it = open_row v target.id b.entry b.there b.live in
    let least : 1 ≤ b.entry.version = versions target.id (born_of_entry target.id b.entry) opens_it in
    record {
      fits = record {
        signature = the_bind;
        there = bind_there;
        old_enough = least;
        args = (
          (name_word, tt),
          (
            (
              (text, version_word, omega (arith, fresh.low)),
              ap (option_map (λ (i : Iface). record { id = next_id Client v; iface = i; version = version })) place,
            ),
            tt,
          ),
        );
        ends = refl;
        len = omega (arith, short);
        word = low.1;
        opcode = omega arith;
        new_version = n.some;
        new_is = (tt, (refl, tt));
        no_error = refl;
      };
      target = opens_it;
      args = tt;
      new = fresh;
      binds = λ is. record {
        binds = record {
          name = name;
          iface = iface;
          version = version;
          new = x;
          args_are = refl;
          within = (let most = n.within in omega (arith, most, version_is));
        };
        global = n.global;
        there = n.there;
        iface_is = refl;
        most = n.most;
      };
    }
  where
    registry_bind : (tables : List Interface) → Valid tables → signature_at tables 1 Request 0 ≡ Some the_bind
    registry_bind tables v = rw v.fixed_four.registry refl

pub binds_step : (state : State) (target : Object) (name : ℕ) (iface : List ℕ) (version : ℕ) (new : Option Object)
    → Valid state.core.tables → ObjectsAreSound state.core.view → HasVersionsAtClient (client_rows state.core.view)
    → state.core.failed ≡ false → name < 2 ^ 32 → version < 2 ^ 32
    → bind_answer state target name iface version ≡ Ok new → BindsAsStep state target name iface version
binds_step state target name iface version new valid sound versions lives name_word version_word h =
    let core = state.core in
    let b = is_bound state target name iface version new lives h in
    let o = opens core Client (Some (bound_object state name version)) new b.opens_it in
    let n = names_at core.tables state.globals iface version name (client.global_of state.globals name) refl b.binds in
    let m = bind_message core.view b.entry target name iface version n.global.iface in
    let may = bind_may state target name iface version new valid sound versions name_word version_word b n o.can in
    let left = bind_left state b.entry target name iface version n.global n.there in
    record {
      request = m;
      may = may;
      rows = ap (λ (x : State). client_rows x.core.view) left
          ∙ client_after core.view (made_in m.args) m.ends may.new tt;
      writes = ap (λ (x : State). x.core.outbox.messages) left;
      globals = refl;
    }
