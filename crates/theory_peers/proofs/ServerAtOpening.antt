-- A checker follows a new server.
use Rattle.std.proofs.Common.{◌≡◌, ℕ, ◌<◌, ◌≤◌, Bool, true, false, cond, List, [], ◌∷◌, length, refl, sym, ap, subst, ◌∙◌, arith}
use Rattle.std.specs.Prelude.{option_map, nat_eq}
use Rattle.std.specs.declared.option.Option.{Option}
use Rattle.std.specs.declared.option.Option.TheVariants.{None, Some}
use Rattle.wl_sigs.specs.Tables.{Interface}
use Rattle.wl_sigs.specs.Fixed.{display}
use Rattle.wl_sigs.specs.Rules.{has_server_objects}
use Rattle.wl_sigs.specs.Valid.{Valid}
use Rattle.wl_message.specs.declared.amounts.Sizes.{Sizes}
use Rattle.wl_object_map.specs.declared.object.Entry.{Entry}
use Rattle.wl_object_map.specs.declared.object.Maker.{Maker}
use Rattle.wl_object_map.specs.declared.object.Maker.TheVariants.{Client, Server}
use Rattle.wl_object_map.specs.declared.object.State.TheVariants.{Live}
use Rattle.wl_object_map.specs.Objects.{maker_of, opening as opening_view}
use Rattle.wl_object_map.specs.Ranges.{is_of_server}
use Rattle.wl_object_map.specs.ObjectsLaws.{is_from, look-opening}
use Rattle.std.proofs.lemmas.Bool.{eqb-true, ne_eqb}
use Rattle.wl_server.specs.State.{new_state}
use Rattle.wl_check.specs.Merged.{merged_within}
use Rattle.wl_check.specs.Places.{KnownAtPlace as Knows, known}
use Rattle.wl_check.specs.Session.{Judged, changes_at, judged_after, messages, session_of}
use Rattle.wl_check.proofs.Examined.{known_first}
use Rattle.theory_connection.specs.Meant.{Born, IsAmongFirst, born_of_entry, live_entry}
use Rattle.theory_connection.specs.World.{Row, Open, display_born}
use Rattle.theory_connection.specs.Flight.{Rows, at_client, births_in, client_rows, done, drained, only_open, row_of_entry}
use Rattle.theory_connection.specs.Flight.{server_rows}
use Rattle.theory_connection.specs.Stands.{birth_in}
use Rattle.theory_connection.proofs.Stands.{by_makers}
use Rattle.theory_recording.specs.Follows.{AllGoOn, KnownAs, birth_places, entry_at, knowledge, places_of_making}
use Rattle.theory_peers.specs.FollowsServer.{FollowsServer}

abbrev first_entry : Bool → Option Entry
first_entry b = cond b (Some (record { birth = 0; iface = display; version = 1; state = Live })) None

abbrev first_known : Knows
first_known = record {
  object = λ id. first_entry (nat_eq id 1);
  used = 1;
  server_used = 0;
  advertised_version = λ name iface. 0;
  taken = λ d. 0;
}

none_judged : (tables : List Interface) → messages tables (session_of 4096 []) ≡ []
unfolding merged_within judged_after
none_judged tables = refl

known_none : (tables : List Interface) → first_known ≡ knowledge tables []
known_none tables =
    known_first tables (session_of 4096 []) first_known
    (record {
      objects = λ id. refl;
      used_is = refl;
      server_used_is = refl;
      advertised_is = λ n i. refl;
      taken_is = λ d. refl;
    })
    ∙ ap (λ (ms : List Judged). known (changes_at tables ms) 1) (none_judged tables)

-- at first there is one place for each maker
abbrev first : Maker → List ℕ
first by = 0 ∷ []

first_places : (tables : List Interface) → birth_places tables [] ≡ first
unfolding places_of_making
first_places tables = λ i by. each by i
  where
    each : (by : Maker) → birth_places tables [] by ≡ first by
    each Client = refl
    each Server = refl

first_row : (id : ℕ) (b : Bool) → first_entry b ≡ option_map (entry_at first)
    (option_map (row_of_entry id) (cond b (Some (live_entry display_born)) None))
first_row id true = refl
first_row id false = refl

-- the rows of a checker before the first message
abbrev opening_rows : Rows Row
opening_rows = client_rows (opening_view display true)

one_each : (by : Maker) → 0 < births_in opening_rows by
one_each Client = omega arith
one_each Server = omega arith

one_place : (by : Maker) → length (first by) ≡ births_in opening_rows by
one_place Client = refl
one_place Server = refl

first_below : (id : ℕ) (b : Bool) (r : Row)
    → option_map (row_of_entry id) (cond b (Some (live_entry display_born)) None) ≡ Some r
    → IsAmongFirst (births_in opening_rows) (birth_in r)
first_below id true r e =
    let same : Open (born_of_entry id (live_entry display_born)) ≡ r = cc e in
    subst (λ (x : Row). IsAmongFirst (births_in opening_rows) (birth_in x)) same
    (one_each (maker_of id))
first_below id false r e = absurd (cc e)

known_opening : KnownAs first_known first opening_rows
known_opening = record {
  objects = λ id. first_row id (nat_eq id 1) ∙ ap (λ (o : Option Entry). option_map (entry_at first)
      (option_map (row_of_entry id) o))
      (sym (look-opening display true id));
  used = refl;
  next = refl;
  births = one_place;
  below = λ id r e. first_below id (nat_eq id 1) r (ap (option_map (row_of_entry id)) (sym (look-opening display true id)) ∙ e);
  made_by = by_makers (opening_view display true);
}

none_go_on : AllGoOn []
none_go_on k one e = absurd (cc e)

open_same : (id : ℕ) (b : Bool) → only_open (option_map (row_of_entry id) (cond b (Some (live_entry display_born)) None))
    ≡ option_map (born_of_entry id) (cond b (Some (live_entry display_born)) None)
open_same id true = refl
open_same id false = refl

all_same : (id : ℕ) (b : Bool) → option_map (row_of_entry id) (cond b (Some (live_entry display_born)) None)
    ≡ at_client (option_map (born_of_entry id) (cond b (Some (live_entry display_born)) None))
all_same id true = refl
all_same id false = refl

-- the rows of both by the one entry
of_checker : (id : ℕ) → opening_rows.rows id
    ≡ option_map (row_of_entry id) (cond (nat_eq id 1) (Some (live_entry display_born)) None)
of_checker id = ap (option_map (row_of_entry id)) (look-opening display true id)

of_server : (range : Bool) (id : ℕ) → (server_rows (opening_view display range)).rows id
    ≡ option_map (born_of_entry id) (cond (nat_eq id 1) (Some (live_entry display_born)) None)
of_server range id = ap (option_map (born_of_entry id)) (look-opening display range id)

low_by : (id : ℕ) (b : Bool) (x : Born) → nat_eq id 1 ≡ b
    → option_map (born_of_entry id) (cond b (Some (live_entry display_born)) None) ≡ Some x → id ≤ 1048576
low_by id true x one h = let same = eqb-true id 1 one in omega (arith, same)
low_by id false x one h = absurd (cc h)

first_low : (range : Bool) (id : ℕ) (x : Born) → (server_rows (opening_view display range)).rows id ≡ Some x
    → id ≤ 1048576
first_low range id x h = low_by id (nat_eq id 1) x refl (sym (of_server range id) ∙ h)

-- no object of the server is there
none_made : (range : Bool) (id : ℕ) (x : Born) → is_of_server id ≡ true
    → (server_rows (opening_view display range)).rows id ≡ Some x → ⊥
none_made range id x made h =
    let from = is_from id made in
    let other : nat_eq id 1 ≡ false = ne_eqb id 1 (λ e. omega (arith, from, e)) in
    let none : option_map (born_of_entry id) (cond (nat_eq id 1) (Some (live_entry display_born)) None) ≡ Some x =
    sym (of_server range id) ∙ h in
    let gone : option_map (born_of_entry id) (cond false (Some (live_entry display_born)) None) ≡ Some x =
    rw other at none in
    cc gone

pub follows_new : (tables : List Interface) (sizes : Sizes) → Valid tables
    → FollowsServer tables [] [] [] (server_rows (new_state tables sizes).core.view)
follows_new tables sizes v =
    let range = has_server_objects tables in
    record {
      passed = none_go_on;
      here = opening_rows;
      known_as = subst (λ (k : Knows). KnownAs k (birth_places tables []) opening_rows) (known_none tables)
          (subst (λ (l : Maker → List ℕ). KnownAs first_known l opening_rows) (sym (first_places tables)) known_opening);
      meet = record {
        middle = opening_rows;
        reads = done;
        tied = drained (λ id. ap only_open (of_checker id) ∙ open_same id (nat_eq id 1) ∙ sym (of_server range id))
            (λ id low. of_checker id ∙ all_same id (nat_eq id 1) ∙ sym (ap at_client (of_server range id))) refl refl
            refl;
      };
      display = of_checker 1;
      asks_fit = tt;
      fit = tt;
      server_display = of_server range 1;
      low = λ id x client h. first_low range id x h;
      plain = λ id x made h. absurd (none_made range id x made h);
    }
