-- Globals are added and withdrawn. A global that was given stays given.
use Rattle.std.proofs.Common.{◌≡◌, ℕ, zero, suc, ◌+◌, ◌-◌, ◌<◌, ◌≤◌, ◌^◌, Bool, true, false, cond}
use Rattle.std.proofs.Common.{List, [], ◌∷◌, ◌++◌, length, refl, sym, ap, subst, ◌∙◌, arith}
use Rattle.std.proofs.Common.{length-append}
use Rattle.std.specs.Prelude.{nat_lt, not, slice_get, slice_set}
use Rattle.std.specs.declared.option.Option.{Option}
use Rattle.std.specs.declared.option.Option.TheVariants.{None, Some}
use Rattle.std.specs.declared.result.Result.{Result}
use Rattle.std.proofs.lemmas.Bool.{ltb-true}
use Rattle.wl_wire.specs.declared.kind.Iface.{Iface}
use Rattle.wl_sigs.specs.Tables.{Interface}
use Rattle.wl_server.specs.State as server
use Rattle.wl_server.specs.State.{Global, global_of, most_globals}
use Rattle.wl_server.specs.Requests.{was_advertised as bind_fits}
use Rattle.wl_server.specs.Calls.{can_be_global, add_refusal, globals_allowed, withdraw_refusal, with_global}
use Rattle.wl_server.specs.Calls.{next_name, withdrawn, without_at, after_withdraw}
use Rattle.wl_client.specs.declared.globals.Global.{Global as Remembered}
use Rattle.theory_connection.specs.Meant.{Known, Message, Coming, Event, Delete}
use Rattle.theory_connection.specs.World.{World, Each}
use Rattle.theory_connection.specs.Pair.{PairState, AddGlobal, Withdraw, with_server, Adds, added}
use Rattle.theory_connection.specs.Pair.{refused, no_memory, Calls, done}
use Rattle.wl_server.specs.declared.globals.GlobalError.{GlobalError}
use Rattle.wl_server.specs.declared.globals.GlobalError.TheVariants.{Failed, BadGlobal, TooMany}
use Rattle.theory_connection.specs.Stands.{StandsBy, WasGiven, AsksFitly, ComesFitly, IsGlobal}
use Rattle.theory_connection.proofs.WholeInFlight.{each_by, each_more}
use Rattle.theory_connection.proofs.Stands.{travel_by}
use Rattle.theory_connection.proofs.Moves.{Moves, goes_on, stays, giving}
use Rattle.theory_connection.specs.World.{Running}
use Rattle.theory_connection.proofs.Errors.{before, server_lives}

-- each name has the interface and version that it had
pub record Same (g h : Global) : Type 0 where
  pub iface : g.iface ≡ h.iface
  pub version : g.version ≡ h.version

pub record Still (given : List Global) (name : ℕ) (g : Global) : Type 0 where
  pub global : Global
  pub there : global_of given name ≡ Some global
  pub same : Same global g

abbrev pub Grows : List Global → List Global → Type 0
Grows given more = (name : ℕ) (g : Global) → global_of given name ≡ Some g → Still more name g

module _ (given more : List Global) (grows : Grows given more) where
  pub was_given : (name : ℕ) (iface : Iface) (version : ℕ) → WasGiven given name iface version
      → WasGiven more name iface version
  was_given name iface version h =
      let s = grows name h.global h.there in
      record {
        global = s.global;
        there = s.there;
        iface_is = s.same.iface ∙ h.iface_is;
        version_is = s.same.version ∙ h.version_is;
      }

  pub binds_at : (tables : List Interface) (iface : List ℕ) (version name : ℕ) (o : Option Global)
      → global_of given name ≡ o → bind_fits tables iface version o ≡ true
      → bind_fits tables iface version (global_of more name) ≡ true
  binds_at tables iface version name None e h = absurd (cc h)
  binds_at tables iface version name (Some g) e h =
      let s = grows name g e in
      ap (bind_fits tables iface version) s.there ∙ same_fits s.global g s.same ∙ h
    where
      same_fits : (x y : Global) → Same x y → bind_fits tables iface version (Some x)
          ≡ bind_fits tables iface version (Some y)
      same_fits x y q = λ i. bind_fits tables iface version
          (Some (record { iface = q.iface i; version = q.version i; present = true }))

  asks_still : (tables : List Interface) (m : Message Known) → AsksFitly tables given m → AsksFitly tables more m
  asks_still tables m h = record {
    fits = h.fits;
    binds = λ e. let b = h.binds e in record {
      name = b.name;
      iface = b.iface;
      version = b.version;
      new = b.new;
      args_are = b.args_are;
      was_given = binds_at tables b.iface b.version b.name _ refl b.was_given;
    };
  }

  comes_still : (tables : List Interface) (c : Coming Known) → ComesFitly tables given c → ComesFitly tables more c
  comes_still tables (Event m) h = record {
    fits = h.fits;
    no_delete_id = h.no_delete_id;
    tells = λ e f. let t = h.tells e f in record {
      name = t.name;
      iface = t.iface;
      version = t.version;
      args_are = t.args_are;
      was_given = was_given t.name t.iface t.version t.was_given;
      known = t.known;
    };
  }
  comes_still tables (Delete x) h = h

pub given_stands : (p : PairState) (w : World) (asked : List (Message Known)) (told : List (Coming Known))
    (s : StandsBy p w asked told) (more : List Global) → Grows p.server.globals more
    → Each (IsGlobal p.server.core.tables) more → length more ≤ most_globals
    → StandsBy (with_server p (record p.server { globals = more })) (record w { given = more }) asked told
given_stands p w asked told s more g e l = record {
  terms = s.terms;
  client = s.client;
  server = s.server;
  plain = s.plain;
  none_made = s.none_made;
  requests = travel_by (asks_still p.server.globals more g p.server.core.tables) s.requests;
  behind = s.behind;
  error = s.error;
  events = travel_by (comes_still p.server.globals more g p.server.core.tables) s.events;
  asks_counted = s.asks_counted;
  deletes_follow = s.deletes_follow;
  meet = s.meet;
  globals = record {
    remembered = s.globals.remembered;
    given = refl;
    remembers = each_by (λ (x : Remembered). WasGiven p.server.globals x.name x.iface x.version)
        (λ (x : Remembered). WasGiven more x.name x.iface x.version)
        (λ x h. was_given p.server.globals more g x.name x.iface x.version h) p.client.globals s.globals.remembers;
    globals = e;
    few_globals = l;
  };
  registries = s.registries;
}

-- ---- one more global

get_more : (xs ys : List Global) (k : ℕ) (g : Global) → slice_get xs k ≡ Some g → slice_get (xs ++ ys) k ≡ Some g
get_more [] ys k g h = absurd (cc h)
get_more (x ∷ xs) ys zero g h = h
get_more (x ∷ xs) ys (suc k) g h = get_more xs ys k g h

pub grows_more : (xs ys : List Global) → Grows xs (xs ++ ys)
grows_more xs ys zero g h = absurd (cc h)
grows_more xs ys (suc k) g h = record {
  global = g;
  there = get_more xs ys k g h;
  same = record { iface = refl; version = refl };
}

pub record CanAdd (s : server.State) (iface : Iface) (version : ℕ) : Type 0 where
  pub can : can_be_global s.core.tables iface version ≡ true
  pub few : length s.globals < globals_allowed s

pub can_add : (s : server.State) (iface : Iface) (version : ℕ) (a b c : Bool) → a ≡ false
    → can_be_global s.core.tables iface version ≡ b → nat_lt (length s.globals) (globals_allowed s) ≡ c
    → cond a (Some Failed) (cond (not b) (Some BadGlobal) (cond c None (Some TooMany))) ≡ None → CanAdd s iface version
can_add s iface version true b c l e f h = absurd (cc l)
can_add s iface version false false c l e f h = absurd (cc h)
can_add s iface version false true false l e f h = absurd (cc h)
can_add s iface version false true true l e f h = record { can = e; few = ltb-true _ _ f }

-- after a new global the pair represents the next world
pub add_global_keeps : (p : PairState) (w : World) (asked : List (Message Known)) (told : List (Coming Known))
    → StandsBy p w asked told → w.stage ≡ Running → (iface : Iface) (version : ℕ) → version < 2 ^ 32
    → (reply : Result ℕ GlobalError) (p' : PairState)
    → Adds (add_refusal p.server iface version) (next_name p.server) p
    (with_server p (with_global p.server iface version)) reply p'
    → Moves p w asked told (AddGlobal iface version) (AddGlobal reply) p'
add_global_keeps p w asked told s z iface version v reply p' (added h) =
    let c = can_add p.server iface version p.server.core.failed _ _ (server_lives s z) refl refl h in
    let g : Global = record { iface = iface; version = version; present = true } in
    let t = given_stands p w asked told s (p.server.globals ++ g ∷ []) (grows_more p.server.globals (g ∷ []))
    (each_more (IsGlobal p.server.core.tables) p.server.globals (g ∷ []) s.globals.globals
    (record { can_be = c.can; word = v }, tt))
    (omega (arith, c.few, length-append p.server.globals (g ∷ []))) in
    record {
      world = record w { given = p.server.globals ++ g ∷ [] };
      answers = before z (added h) (
        ap (λ (l : List Global). length l + 1) (sym s.globals.given),
        ap
            (λ (l : List Global). record w { given = l ++ g ∷ [] }) (sym s.globals.given),
      );
      outcome = goes_on asked told t (giving (p.server.globals ++ g ∷ []));
    }
add_global_keeps p w asked told s z iface version v reply p' (refused h) =
    record { world = w; answers = before z (refused h) refl; outcome = goes_on asked told s stays }
add_global_keeps p w asked told s z iface version v reply p' (no_memory h) =
    record { world = w; answers = before z (no_memory h) refl; outcome = goes_on asked told s stays }

-- ---- one global withdrawn

same_withdrawn : (g : Global) → Same (withdrawn g) g
same_withdrawn g = record { iface = refl; version = refl }

set_get : (xs : List Global) (i k : ℕ) (x g : Global) → slice_get xs i ≡ Some x → slice_get xs k ≡ Some g
    → (y : Global) × (slice_get (slice_set xs i (withdrawn x)) k ≡ Some y) × Same y g
set_get [] i k x g h e = absurd (cc h)
set_get (a ∷ xs) zero zero x g h e = (
  withdrawn x,
  refl,
  (let q : x ≡ g = cc (h, e) in subst (Same (withdrawn x)) q (same_withdrawn x)),
)
set_get (a ∷ xs) zero (suc k) x g h e = (g, e, record { iface = refl; version = refl })
set_get (a ∷ xs) (suc i) zero x g h e = (g, e, record { iface = refl; version = refl })
set_get (a ∷ xs) (suc i) (suc k) x g h e = set_get xs i k x g h e

each_set : (P : Global → Type 0) → ((g : Global) → P g → P (withdrawn g)) → (xs : List Global) (i : ℕ) (x : Global)
    → slice_get xs i ≡ Some x → Each P xs → Each P (slice_set xs i (withdrawn x))
each_set P f [] i x h e = tt
each_set P f (a ∷ xs) zero x h e = (f x (subst P (cc h) e.0), e.1)
each_set P f (a ∷ xs) (suc i) x h e = (e.0, each_set P f xs i x h e.1)

length_set : (xs : List Global) (i : ℕ) (x : Global) → length (slice_set xs i x) ≡ length xs
length_set [] i x = refl
length_set (a ∷ xs) zero x = refl
length_set (a ∷ xs) (suc i) x = ap suc (length_set xs i x)

pub grows_without : (xs : List Global) (name : ℕ) (x : Global) → global_of xs name ≡ Some x
    → Grows xs (slice_set xs (name - 1) (withdrawn x))
grows_without xs zero x h name g e = absurd (cc h)
grows_without xs (suc i) x h zero g e = absurd (cc e)
grows_without xs (suc i) x h (suc k) g e =
    let place : suc i - 1 ≡ i = omega arith in
    let r = set_get xs i k x g h e in
    record { global = r.0; there = ap (λ (n : ℕ). slice_get (slice_set xs n (withdrawn x)) k) place ∙ r.1; same = r.2 }

pub each_without : (P : Global → Type 0) → ((g : Global) → P g → P (withdrawn g))
    → (xs : List Global) (name : ℕ) (x : Global) → global_of xs name ≡ Some x → Each P xs
    → Each P (slice_set xs (name - 1) (withdrawn x))
each_without P f xs zero x h e = absurd (cc h)
each_without P f xs (suc i) x h e =
    let place : suc i - 1 ≡ i = omega arith in
    subst (λ (n : ℕ). Each P (slice_set xs n (withdrawn x))) (sym place) (each_set P f xs i x h e)

withdraw_stands : (p : PairState) (w : World) (asked : List (Message Known)) (told : List (Coming Known))
    (s : StandsBy p w asked told) (name : ℕ) (o : Option Global) → global_of p.server.globals name ≡ o
    → StandsBy (with_server p (record p.server { globals = without_at p.server.globals name o }))
    (record w { given = without_at p.server.globals name o }) asked told
withdraw_stands p w asked told s name None e = given_stands p w asked told s p.server.globals
    (λ n g h. record { global = g; there = h; same = record { iface = refl; version = refl } }) s.globals.globals
    s.globals.few_globals
withdraw_stands p w asked told s name (Some x) e =
    given_stands p w asked told s (slice_set p.server.globals (name - 1) (withdrawn x))
    (grows_without p.server.globals name x e)
    (each_without (IsGlobal p.server.core.tables)
    (λ g h. record { can_be = h.can_be; word = h.word }) p.server.globals name x e s.globals.globals)
    (let l = length_set p.server.globals (name - 1) (withdrawn x) in omega (arith, l, s.globals.few_globals))

-- after the withdrawal of a global the pair represents the next world
pub withdraw_keeps : (p : PairState) (w : World) (asked : List (Message Known)) (told : List (Coming Known))
    → StandsBy p w asked told → w.stage ≡ Running → (name : ℕ) (reply : Result (Unit {0}) GlobalError) (p' : PairState)
    → Calls (withdraw_refusal p.server name) p (with_server p (after_withdraw p.server name)) reply p'
    → Moves p w asked told (Withdraw name) (Withdraw reply) p'
withdraw_keeps p w asked told s z name reply p' (done h) = record {
  world = record w { given = without_at p.server.globals name (global_of p.server.globals name) };
  answers = before z (done h) (ap (λ (l : List Global). record w { given = without_at l name (global_of l name) })
      (sym s.globals.given));
  outcome = goes_on asked told (withdraw_stands p w asked told s name (global_of p.server.globals name) refl)
      (giving (without_at p.server.globals name (global_of p.server.globals name)));
}
withdraw_keeps p w asked told s z name reply p' (refused h) =
    record { world = w; answers = before z (refused h) refl; outcome = goes_on asked told s stays }
