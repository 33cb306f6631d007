-- A checker follows a new client.
use Rattle.std.proofs.Common.{◌≡◌, ℕ, ◌<◌, ◌≤◌, Bool, true, false, cond, List, [], ◌∷◌, length, inl, inr, refl, sym, ap}
use Rattle.std.proofs.Common.{subst, ◌∙◌, arith}
use Rattle.std.specs.Prelude.{option_map, nat_eq}
use Rattle.std.specs.declared.option.Option.{Option}
use Rattle.std.specs.declared.option.Option.TheVariants.{None, Some}
use Rattle.std.proofs.lemmas.Bool.{eqb-true, ne_eqb}
use Rattle.wl_sigs.specs.Fixed.{display}
use Rattle.wl_sigs.specs.Tables.{Interface}
use Rattle.wl_sigs.specs.Valid.{Valid}
use Rattle.wl_message.specs.declared.amounts.Sizes.{Sizes}
use Rattle.wl_object_map.specs.declared.object.Entry.{Entry}
use Rattle.wl_object_map.specs.declared.object.Maker.{Maker}
use Rattle.wl_object_map.specs.declared.object.Maker.TheVariants.{Client, Server}
use Rattle.wl_object_map.specs.declared.object.State.TheVariants.{Live}
use Rattle.wl_object_map.specs.Objects.{maker_of, opening as opening_view}
use Rattle.wl_object_map.specs.ObjectsLaws.{is_from, look-opening}
use Rattle.wl_object_map.specs.Ranges.{is_of_server}
use Rattle.wl_client.specs.State.{new_state}
use Rattle.wl_check.specs.Merged.{merged_within}
use Rattle.wl_check.specs.Places.{KnownAtPlace as Knows, known}
use Rattle.wl_check.specs.Session.{Judged, changes_at, judged_after, messages, session_of}
use Rattle.wl_check.proofs.Examined.{known_first}
use Rattle.theory_connection.specs.Meant.{IsAmongFirst, born_of_entry, live_entry}
use Rattle.theory_connection.specs.World.{Row, Open, Ending, display_born}
use Rattle.theory_connection.specs.Flight.{Rows, births_in, client_rows, done as all_read, row_of_entry}
use Rattle.theory_connection.specs.Stands.{birth_in}
use Rattle.theory_connection.proofs.Stands.{by_makers}
use Rattle.theory_recording.specs.Leads.{done}
use Rattle.theory_recording.specs.Follows.{AllGoOn, KnownAs, birth_places, entry_at, knowledge, places_of_making}
use Rattle.theory_peers.specs.FollowsClient.{FollowsClient, HeldLow, HeldPlain}

abbrev first_entry : Bool → Option Entry
first_entry b = cond b (Some (record { birth = 0; iface = display; version = 1; state = Live })) None

abbrev first_known : Knows
first_known = record {
  object = λ id. first_entry (nat_eq id 1);
  used = 1;
  server_used = 0;
  advertised_version = λ name iface. 0;
  taken = λ d. 0;
}

none_judged : (tables : List Interface) → messages tables (session_of 4096 []) ≡ []
unfolding merged_within judged_after
none_judged tables = refl

known_none : (tables : List Interface) → first_known ≡ knowledge tables []
known_none tables =
    known_first tables (session_of 4096 []) first_known
    (record {
      objects = λ id. refl;
      used_is = refl;
      server_used_is = refl;
      advertised_is = λ n i. refl;
      taken_is = λ d. refl;
    })
    ∙ ap (λ (ms : List Judged). known (changes_at tables ms) 1) (none_judged tables)

-- at first there is one place for each maker
abbrev first : Maker → List ℕ
first by = 0 ∷ []

first_places : (tables : List Interface) → birth_places tables [] ≡ first
unfolding places_of_making
first_places tables = λ i by. each by i
  where
    each : (by : Maker) → birth_places tables [] by ≡ first by
    each Client = refl
    each Server = refl

first_row : (id : ℕ) (b : Bool) → first_entry b ≡ option_map (entry_at first)
    (option_map (row_of_entry id) (cond b (Some (live_entry display_born)) None))
first_row id true = refl
first_row id false = refl

-- the rows of a new client, whether it has a table of the server's range or not
abbrev opening_rows : Rows Row
opening_rows = client_rows (opening_view display true)

one_each : (by : Maker) → 0 < births_in opening_rows by
one_each Client = omega arith
one_each Server = omega arith

one_place : (by : Maker) → length (first by) ≡ births_in opening_rows by
one_place Client = refl
one_place Server = refl

first_below : (id : ℕ) (b : Bool) (r : Row)
    → option_map (row_of_entry id) (cond b (Some (live_entry display_born)) None) ≡ Some r
    → IsAmongFirst (births_in opening_rows) (birth_in r)
first_below id true r e =
    let same : Open (born_of_entry id (live_entry display_born)) ≡ r = cc e in
    subst (λ (x : Row). IsAmongFirst (births_in opening_rows) (birth_in x)) same
    (one_each (maker_of id))
first_below id false r e = absurd (cc e)

known_opening : KnownAs first_known first opening_rows
known_opening = record {
  objects = λ id. first_row id (nat_eq id 1) ∙ ap (λ (o : Option Entry). option_map (entry_at first)
      (option_map (row_of_entry id) o))
      (sym (look-opening display true id));
  used = refl;
  next = refl;
  births = one_place;
  below = λ id r e. first_below id (nat_eq id 1) r (ap (option_map (row_of_entry id)) (sym (look-opening display true id)) ∙ e);
  made_by = by_makers (opening_view display true);
}

none_go_on : AllGoOn []
none_go_on k one e = absurd (cc e)

row_at : (id : ℕ) → opening_rows.rows id
    ≡ option_map (row_of_entry id) (cond (nat_eq id 1) (Some (live_entry display_born)) None)
row_at id = ap (option_map (row_of_entry id)) (look-opening display true id)

low_by : (id : ℕ) (b : Bool) (r : Row) → nat_eq id 1 ≡ b
    → option_map (row_of_entry id) (cond b (Some (live_entry display_born)) None) ≡ Some r → id ≤ 1048576
low_by id true r one h = let same = eqb-true id 1 one in omega (arith, same)
low_by id false r one h = absurd (cc h)

first_low : HeldLow opening_rows
first_low id r client h = low_by id (nat_eq id 1) r refl (sym (row_at id) ∙ h)

-- no object of the server is there
none_made : (id : ℕ) (r : Row) → is_of_server id ≡ true → opening_rows.rows id ≡ Some r → ⊥
none_made id r made h =
    let from = is_from id made in
    let other : nat_eq id 1 ≡ false = ne_eqb id 1 (λ e. omega (arith, from, e)) in
    let none : option_map (row_of_entry id) (cond (nat_eq id 1) (Some (live_entry display_born)) None) ≡ Some r =
    sym (row_at id) ∙ h in
    let gone : option_map (row_of_entry id) (cond false (Some (live_entry display_born)) None) ≡ Some r =
    rw other at none in
    cc gone

first_plain : (tables : List Interface) → HeldPlain tables opening_rows
first_plain tables x server (inl h) = absurd (none_made x.id (Open x.born) server h)
first_plain tables x server (inr h) = absurd (none_made x.id (Ending x.born) server h)

pub follows_new_client : (tables : List Interface) (sizes : Sizes) → Valid tables
    → FollowsClient tables [] [] [] (client_rows (new_state tables sizes).core.view) []
follows_new_client tables sizes v = record {
  passed = none_go_on;
  here = opening_rows;
  known_as = subst (λ (k : Knows). KnownAs k (birth_places tables []) opening_rows) (known_none tables)
      (subst (λ (l : Maker → List ℕ). KnownAs first_known l opening_rows) (sym (first_places tables)) known_opening);
  joins = record { common = opening_rows; leads = done; reads = all_read };
  remembers = tt;
  advertises = tt;
  binds = tt;
  asks_fit = tt;
  tells_fit = tt;
  display = row_at 1;
  low = first_low;
  plain = first_plain tables;
  client_display = row_at 1;
}
