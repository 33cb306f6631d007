-- The move in which the client binds a global.
use Rattle.std.proofs.Common.{◌≡◌, ℕ, zero, suc, ◌≤◌, Bool, true, false, cond, List, [], ◌∷◌, ◌++◌}
use Rattle.std.proofs.Common.{length, refl, sym, ap, subst, ◌∙◌, arith}
use Rattle.std.specs.Prelude.{option_map, nat_le, bytes_eq, not, ◌&&◌, codes}
use Rattle.std.specs.List.{find}
use Rattle.std.specs.declared.option.Option.{Option}
use Rattle.std.specs.declared.option.Option.TheVariants.{None, Some}
use Rattle.std.specs.declared.result.Result.{Result}
use Rattle.std.specs.declared.result.Result.TheVariants.{Ok, Err}
use Rattle.std.proofs.lemmas.Bool.{eqb-true}
use Rattle.std.proofs.lemmas.Bool.Decides.{nat_tests}
use Rattle.std.proofs.lemmas.Option.{slice_get_within}
use Rattle.wl_wire.specs.declared.kind.Iface.{Iface}
use Rattle.wl_wire.specs.Argument.{Uint, NewNamed}
use Rattle.wl_wire.specs.Spelling.{IsText}
use Rattle.wl_sigs.specs.Side.TheVariants.{Request}
use Rattle.wl_sigs.specs.Destroys.TheVariants.{Nothing}
use Rattle.wl_sigs.specs.Tables.{Interface, interface_at, signature_at, place_of}
use Rattle.wl_sigs.specs.Fixed.{registry}
use Rattle.wl_sigs.specs.Fixed as fixed
use Rattle.wl_sigs.specs.Valid.{Valid}
use Rattle.wl_message.specs.Outgoing.{queued}
use Rattle.wl_object_map.specs.declared.object.Object.{Object}
use Rattle.wl_object_map.specs.declared.object.Entry.{Entry}
use Rattle.wl_object_map.specs.declared.object.State.TheVariants as states
use Rattle.wl_objects.specs.declared.error.SendError.{SendError}
use Rattle.wl_objects.specs.declared.error.SendError.TheVariants as refusals
use Rattle.wl_object_map.specs.declared.object.Maker.TheVariants.{Client}
use Rattle.wl_object_map.specs.Objects.{Objects, look, opened_at, next_id, can_open}
use Rattle.wl_objects.specs.Writing.{bind_values, is_live_as, message_bytes}
use Rattle.wl_objects.specs.Messages.{live_row, same_iface}
use Rattle.wl_connection.specs.Sending.{opening_answer}
use Rattle.wl_client.specs.declared.globals.Global.{Global as Remembered}
use Rattle.wl_client.specs.State as client
use Rattle.wl_client.specs.State.{is_named}
use Rattle.wl_client.specs.Calls.{version_fits, can_bind, iface_or, bound_object, bind_at, bind_answer, after_bind}
use Rattle.wl_server.specs.State as server
use Rattle.wl_server.specs.Requests.{was_advertised as bind_fits, name_fits}
use Rattle.theory_connection.specs.Meant.{client_birth, Known, Message, Coming, renamed, born_of, born_of_entry}
use Rattle.theory_connection.specs.World.{World, Open, Each, request_written}
use Rattle.theory_connection.specs.Pair.{PairState, ClientBind, with_client, Writes, accepted, refused, no_memory}
use Rattle.theory_connection.specs.Answers.{birth_at}
use Rattle.theory_connection.specs.Answers as answers
use Rattle.theory_connection.specs.Flight.{client_rows, row_of_entry, as_row}
use Rattle.theory_connection.specs.Stands.{StandsBy, WasGiven, IsGlobal}
use Rattle.theory_connection.proofs.Bridges.{next_fresh}
use Rattle.theory_connection.proofs.EndedObject.{born_ends}
use Rattle.theory_connection.proofs.Registries.{registry_plain}
use Rattle.theory_connection.proofs.RequestRead.{test_of}
use Rattle.theory_connection.proofs.Calls.{live_as}
use Rattle.theory_connection.proofs.TwoRanges.{row_word}
use Rattle.theory_connection.proofs.Bridges.{by_client}
use Rattle.wl_object_map.specs.Objects.{maker_of}
use Rattle.wl_object_map.specs.ObjectsLaws.{next_of_client}
use Rattle.theory_connection.proofs.Written.{opens}
use Rattle.theory_connection.proofs.Places.{place_there, name_text, bytes_same, bytes_self}
use Rattle.theory_connection.proofs.Announces.{each_get}
use Rattle.theory_connection.proofs.RequestWritten.{CanAsk, asked_core, ask_stands}
use Rattle.theory_connection.proofs.ClientSendMove.{asks_world}
use Rattle.theory_connection.proofs.Moves.{Moves, Outcome, goes_on, stays, asking}
use Rattle.theory_connection.specs.World.{is_over}
use Rattle.theory_connection.proofs.Errors.{client_does}

-- ---- what follows from an accepted bind

pub record Bound (st : client.State) (target : Object) (name : ℕ) (iface : List ℕ) (version : ℕ)
    (new : Option Object) : Type 0 where
  pub entry : Entry
  pub there : look st.core.view target.id ≡ Some entry
  pub birth : entry.birth ≡ target.birth
  pub live : entry.state ≡ states.Live
  pub registers : same_iface entry.iface registry ≡ true
  pub binds : can_bind st.core.tables iface version (client.global_of st.globals name) ≡ true
  pub opens_it : opening_answer st.core Client (Some (bound_object st name version)) ≡ Ok new

live_found : (birth : ℕ) (o : Option Entry) (b : Bool) (e : Entry) → is_live_as birth o ≡ b → cond b o None ≡ Some e
    → (o ≡ Some e) × (e.birth ≡ birth) × (e.state ≡ states.Live)
live_found birth o true e h k =
    let l = live_as birth o h in
    let same : l.entry ≡ e = cc (l.there, k) in
    (k, ap (λ (x : Entry). x.birth) (sym same) ∙ l.birth_is, ap (λ (x : Entry). x.state) (sym same) ∙ l.live)
live_found birth o false e h k = absurd (cc k)

all_three : (a b c : Bool) (x y z : SendError) (r : Result (Option Object) SendError) (new : Option Object)
    → cond (not a) (Err x) (cond (not b) (Err y) (cond c r (Err z))) ≡ Ok new → (a ≡ true) × (b ≡ true) × (r ≡ Ok new)
all_three true true true x y z r new h = (refl, refl, h)
all_three true true false x y z r new h = absurd (cc h)
all_three true false c x y z r new h = absurd (cc h)
all_three false b c x y z r new h = absurd (cc h)

bound_at : (st : client.State) (target : Object) (name : ℕ) (iface : List ℕ) (version : ℕ) (new : Option Object)
    (o : Option Entry) → live_row st.core.view target ≡ o → bind_at st name iface version o ≡ Ok new
    → Bound st target name iface version new
bound_at st target name iface version new None e h = absurd (cc h)
bound_at st target name iface version new (Some entry) e h =
    let l = live_found target.birth (look st.core.view target.id) _ entry refl e in
    let t = all_three (same_iface entry.iface registry)
    (can_bind st.core.tables iface version (client.global_of st.globals name)) _ _ _ _ _ new h in
    record { entry = entry; there = l.0; birth = l.1; live = l.2; registers = t.0; binds = t.1; opens_it = t.2 }

is_bound : (st : client.State) (target : Object) (name : ℕ) (iface : List ℕ) (version : ℕ) (new : Option Object)
    → st.core.failed ≡ false → bind_answer st target name iface version ≡ Ok new
    → Bound st target name iface version new
is_bound st target name iface version new l h =
    bound_at st target name iface version new (live_row st.core.view target) refl
    (sym (ap (λ (b : Bool). cond b (Err refusals.Failed)
    (bind_at st name iface version (live_row st.core.view target))) l) ∙ h)

-- ---- the global

pub record Names (tables : List Interface) (gs : List Remembered) (iface : List ℕ) (version name : ℕ) : Type 0 where
  pub global : Remembered
  pub there : client.global_of gs name ≡ Some global
  pub interface : Interface
  pub place : interface_at tables global.iface.0 ≡ Some interface
  pub named : interface.name ≡ iface
  pub some : 1 ≤ version
  pub most : version ≤ global.version

and_all : (a b c d : Bool) → (a && (b && (c && d))) ≡ true → (a ≡ true) × (b ≡ true) × (c ≡ true)
and_all true true true d h = (refl, refl, refl)
and_all true true false d h = absurd (cc h)
and_all true false c d h = absurd (cc h)
and_all false b c d h = absurd (cc h)

names_in : (tables : List Interface) (gs : List Remembered) (iface : List ℕ) (version name : ℕ) (g : Remembered)
    (o : Option Interface) → client.global_of gs name ≡ Some g → interface_at tables g.iface.0 ≡ o
    → version_fits version g.version o iface ≡ true → Names tables gs iface version name
names_in tables gs iface version name g None e p h = absurd (cc h)
names_in tables gs iface version name g (Some i) e p h =
    let a = and_all (bytes_eq i.name iface) (nat_le 1 version) (nat_le version g.version) _ h in
    record {
      global = g;
      there = e;
      interface = i;
      place = p;
      named = bytes_same i.name iface a.0;
      some = let q = a.1 in grind (arith, nat_tests, q);
      most = let q = a.2 in grind (arith, nat_tests, q);
    }

names_at : (tables : List Interface) (gs : List Remembered) (iface : List ℕ) (version name : ℕ) (o : Option Remembered)
    → client.global_of gs name ≡ o → can_bind tables iface version o ≡ true → Names tables gs iface version name
names_at tables gs iface version name None e h = absurd (cc h)
names_at tables gs iface version name (Some g) e h =
    names_in tables gs iface version name g (interface_at tables g.iface.0) e refl h

found_if : (P : Remembered → Type 0) (test : Remembered → Bool) (x g : Remembered) (rest : Option Remembered) (b : Bool)
    → test x ≡ b → P x → (rest ≡ Some g → P g × (test g ≡ true)) → cond b (Some x) rest ≡ Some g
    → P g × (test g ≡ true)
found_if P test x g rest true t p f k = let q : x ≡ g = cc k in (subst P q p, ap test (sym q) ∙ t)
found_if P test x g rest false t p f k = f k

-- the element that is found passes the test, and has what each element has
pub find_at : (P : Remembered → Type 0) (test : Remembered → Bool) (gs : List Remembered) (g : Remembered) → Each P gs
    → find test gs ≡ Some g → P g × (test g ≡ true)
find_at P test [] g h e = absurd (cc e)
find_at P test (x ∷ gs) g h e = found_if P test x g (find test gs) (test x) refl h.0 (λ k. find_at P test gs g h.1 k) e

name_low : (given : List server.Global) (name : ℕ) (g : server.Global) → server.global_of given name ≡ Some g
    → name ≤ length given
name_low given zero g h = absurd (cc h)
name_low given (suc k) g h = let n = slice_get_within given k g h in omega (arith, n)

given_at : (P : server.Global → Type 0) (given : List server.Global) (name : ℕ) (g : server.Global) → Each P given
    → server.global_of given name ≡ Some g → P g
given_at P given zero g e h = absurd (cc h)
given_at P given (suc k) g e h = each_get P given k g e h

-- ---- the request

abbrev pub the_bound : Objects → ℕ → Iface → Known
the_bound v version place = record {
  id = next_id Client v;
  born = record { birth = client_birth v.client.births; iface = place; version = version };
}

abbrev pub bind_message : Objects → Entry → Object → ℕ → List ℕ → ℕ → Iface → Message Known
bind_message v entry target name iface version place = record {
  target = record { id = target.id; born = born_of_entry target.id entry };
  opcode = 0;
  args = Uint name ∷ NewNamed iface version (the_bound v version place) ∷ [];
  ends = None;
}

same_is : (a b : Iface) → same_iface a b ≡ true → a ≡ b
same_is a b h = let e : a.0 ≡ b.0 = eqb-true a.0 b.0 h in λ i. record { 0 = e i }

open_row : (v : Objects) (id : ℕ) (e : Entry) → look v id ≡ Some e → e.state ≡ states.Live
    → (client_rows v).rows id ≡ Some (Open (born_of_entry id e))
open_row v id e h l = ap (option_map (row_of_entry id)) h ∙ ap (λ s. Some (as_row s (born_of_entry id e))) l

pub bind_can : (p : PairState) (w : World) (asked : List (Message Known)) (told : List (Coming Known))
    (s : StandsBy p w asked told) (target : Object) (name : ℕ) (iface : List ℕ) (version : ℕ) (new : Option Object)
    → (b : Bound p.client target name iface version new)
    (n : Names p.server.core.tables p.client.globals iface version name) → can_open Client p.client.core.view ≡ true
    → CanAsk p (bind_message p.client.core.view b.entry target name iface version n.global.iface)
bind_can p w asked told s target name iface version new b n can =
    let v = p.client.core.view in
    let tables = p.server.core.tables in
    let f = find_at (λ (g : Remembered). WasGiven p.server.globals g.name g.iface g.version)
    (is_named name) p.client.globals n.global s.globals.remembers n.there in
    let same_name : n.global.name ≡ name = eqb-true n.global.name name f.1 in
    let given : WasGiven p.server.globals name n.global.iface n.global.version =
    subst (λ (k : ℕ). WasGiven p.server.globals k n.global.iface n.global.version) same_name f.0 in
    let few = name_low p.server.globals name given.global given.there in
    let g = given_at (IsGlobal tables) p.server.globals name given.global s.globals.globals given.there in
    let is_name = s.terms.valid.names_distinct.interfaces_named n.global.iface.0 n.interface n.place in
    let text : IsText iface = subst IsText n.named (name_text n.interface.name is_name) in
    let short : length iface ≤ 256 = subst (λ (l : List ℕ). length l ≤ 256) n.named is_name.few in
    let place : place_of tables iface ≡ Some n.global.iface =
    ap (place_of tables) (sym n.named) ∙ place_there tables s.terms.valid n.global.iface n.interface n.place in
    let reg : b.entry.iface ≡ registry = same_is b.entry.iface registry b.registers in
    let x : Known = record {
      id = next_id Client v;
      born =
          record { birth = client_birth v.client.births; iface = n.global.iface; version = version };
    } in
    let fresh = next_fresh v x s.client.sound can refl refl in
    let fits_name : name_fits iface (interface_at tables given.global.iface.0) ≡ true =
    ap (λ (i : Iface). name_fits iface (interface_at tables i.0)) given.iface_is ∙ ap (name_fits iface) n.place
    ∙ ap (λ (l : List ℕ). bytes_eq l iface) n.named ∙ bytes_self iface in
    let low = row_word v target.id b.entry s.client.sound b.there in
    let bind_there : signature_at tables b.entry.iface.0 Request 0
    ≡ Some (fixed.message (codes "bind") 1 (fixed.uint ∷ fixed.new None ∷ []) Nothing) =
    ap (λ (i : Iface). signature_at tables i.0 Request 0) reg ∙ registry_bind tables s.terms.valid in
    record {
      fitly = record {
        fits = record {
          signature = fixed.message (codes "bind") 1 (fixed.uint ∷ fixed.new None ∷ []) Nothing;
          there = bind_there;
          old_enough = s.client.versions target.id b.entry b.there;
          args = (
            (omega (arith, few, s.globals.few_globals), tt),
            (
              (
                (text, omega (arith, n.most, g.word, given.version_is), omega (arith, fresh.low)),
                ap
                    (option_map (λ (i : Iface). record { id = next_id Client v; iface = i; version = version })) place,
              ),
              tt,
            ),
          );
          ends = refl;
          len = omega (arith, short);
          word = low.1;
          opcode = omega arith;
          new_version = n.some;
          new_is = (tt, (refl, tt));
          no_error = refl;
        };
        binds = λ h. record {
          name = name;
          iface = iface;
          version = version;
          new = x;
          args_are = refl;
          was_given = bind_is tables iface version
              (server.global_of p.server.globals name) given.global given.there fits_name n.some
              (omega (arith, n.most, given.version_is));
        };
      };
      target = open_row v target.id b.entry b.there b.live;
      target_plain = ap (λ (i : Iface). test_of p
          (record { birth = record { maker = maker_of target.id; number = b.entry.birth }; iface = i; version = b.entry.version })) reg
          ∙ registry_plain tables s.terms.valid;
      args = tt;
      args_plain = tt;
      new = fresh;
      new_next = refl;
      new_can = can;
      mortal = tt;
      short = omega (arith, short, p.client.core.outbox.limit.in_range.0);
    }
  where
    registry_bind : (tables : List Interface) → Valid tables
        → signature_at tables 1 Request 0 ≡ Some (fixed.message (codes "bind") 1
        (fixed.uint ∷ fixed.new None ∷ []) Nothing)
    registry_bind tables v = rw v.fixed_four.registry refl

    bind_is : (tables : List Interface) (iface : List ℕ) (version : ℕ) (o : Option server.Global) (g : server.Global)
        → o ≡ Some g → name_fits iface (interface_at tables g.iface.0) ≡ true → 1 ≤ version → version ≤ g.version
        → bind_fits tables iface version o ≡ true
    bind_is tables iface version o g e a b c = ap (bind_fits tables iface version) e
        ∙ rw a (let x : (nat_le 1 version && nat_le version g.version) ≡ true = grind (arith, nat_tests, b, c) in x)

left_by : (st : client.State) (entry : Entry) (target : Object) (name : ℕ) (iface : List ℕ) (version : ℕ)
    (g : Remembered) → client.global_of st.globals name ≡ Some g
    → after_bind st target name iface version ≡ client.with_core st
    (asked_core st.core (bind_message st.core.view entry target name iface version g.iface))
left_by st entry target name iface version g e =
    λ i. record st {
      core = record st.core {
        view = opened_at st.core.view (next_id Client st.core.view) (iface_or (e i)) version;
        outbox = record st.core.outbox {
          messages = st.core.outbox.messages
              ++ queued (message_bytes target.id 0 (bind_values name iface version (next_id Client st.core.view))) [] ∷ [];
        };
      };
    }

-- after a bind by the client the pair represents the next world
pub client_bind_keeps : (p : PairState) (w : World) (asked : List (Message Known)) (told : List (Coming Known))
    → StandsBy p w asked told → is_over w.stage ≡ false → (target : Object) (name : ℕ) (iface : List ℕ) (version : ℕ)
    → (reply : Result (Option Object) SendError) (p' : PairState)
    → Writes (bind_answer p.client target name iface version) true p
    (with_client p (after_bind p.client target name iface version)) reply p'
    → Moves p w asked told (ClientBind target name iface version) (ClientBind reply) p'
client_bind_keeps p w asked told s z target name iface version reply p' (accepted {new = new} h) =
    let b = is_bound p.client target name iface version new s.client.lives h in
    let o = opens p.client.core Client (Some (bound_object p.client name version)) new b.opens_it in
    let n = names_at p.server.core.tables p.client.globals iface version name
    (client.global_of p.client.globals name) refl
    (subst (λ (t : List Interface). can_bind t iface version (client.global_of p.client.globals name) ≡ true)
    s.terms.same_tables b.binds) in
    let can = bind_can p w asked told s target name iface version new b n o.can in
    let m = bind_message p.client.core.view b.entry target name iface version n.global.iface in
    let sig_there : signature_at p.client.core.tables m.target.born.iface.0 Request 0 ≡ Some can.fitly.fits.signature =
    subst (λ (t : List Interface). signature_at t m.target.born.iface.0 Request 0
    ≡ Some can.fitly.fits.signature) (sym s.terms.same_tables) can.fitly.fits.there in
    record {
      world = request_written w (renamed born_of m);
      answers = client_does z tt (accepted h) (record {
        message = renamed born_of m;
        is = record {
          signature = can.fitly.fits.signature;
          there = sig_there;
          ends = born_ends m can.fitly.fits.signature.destroys can.fitly.fits.ends;
        };
        target_is = ap (λ (n : ℕ). birth_at (record { id = target.id; birth = n })) b.birth;
        opcode_is = refl;
        args_are = ap (λ (k : ℕ). answers.bind_args name iface version k) (sym s.client.births);
        new_is = ap Some (sym (by_client (next_id Client p.client.core.view) p.client.core.view.client.births
            (next_of_client p.client.core.view s.client.sound)))
            ∙ ap (option_map birth_at) (sym o.is);
        steps = asks_world p w asked told s m can;
      });
      outcome = subst (λ (x : client.State). Outcome p asked told (with_client p x)
          (request_written w (renamed born_of m)))
          (sym (left_by p.client b.entry target name iface version n.global n.there))
          (goes_on (asked ++ m ∷ []) told (ask_stands p w asked told s m can)
          (asking m can (λ h. record {
            name = name;
            iface = iface;
            version = version;
            new = the_bound p.client.core.view version n.global.iface;
            args_are = refl;
            global = n.global;
            there =
                n.there;
            iface_is = refl;
            most = n.most;
          })));
    }
client_bind_keeps p w asked told s z target name iface version reply p' (refused h) =
    record { world = w; answers = client_does z tt (refused h) refl; outcome = goes_on asked told s stays }
client_bind_keeps p w asked told s z target name iface version reply p' (no_memory h o) =
    record { world = w; answers = client_does z tt (no_memory h o) refl; outcome = goes_on asked told s stays }
