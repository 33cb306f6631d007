-- A new pair is linked.
use Rattle.std.proofs.Common.{◌≡◌, ℕ, Bool, true, false, cond, List, [], ◌∷◌, refl, sym, ap, subst, ◌∙◌, arith}
use Rattle.std.specs.Prelude.{option_map, nat_eq}
use Rattle.std.specs.declared.option.Option.{Option}
use Rattle.std.specs.declared.option.Option.TheVariants.{None, Some}
use Rattle.wl_sigs.specs.Tables.{Interface}
use Rattle.wl_sigs.specs.Fixed.{display}
use Rattle.std.proofs.Common.{◌<◌, length, arith, subst}
use Rattle.wl_object_map.specs.declared.object.Maker.{Maker}
use Rattle.wl_object_map.specs.declared.object.Maker.TheVariants.{Client, Server}
use Rattle.wl_object_map.specs.Objects.{maker_of}
use Rattle.theory_connection.specs.Meant.{born_of_entry}
use Rattle.theory_connection.specs.Flight.{Rows, births_in}
use Rattle.theory_connection.proofs.Stands.{by_makers}
use Rattle.wl_sigs.specs.Valid.{Valid}
use Rattle.wl_message.specs.declared.amounts.Sizes.{Sizes}
use Rattle.wl_message.specs.Arrived.{nothing_arrived}
use Rattle.wl_object_map.specs.declared.object.Entry.{Entry}
use Rattle.wl_object_map.specs.declared.object.State.TheVariants.{Live}
use Rattle.wl_object_map.specs.Objects.{opening as opening_view}
use Rattle.wl_object_map.specs.ObjectsLaws.{look-opening}
use Rattle.wl_recording.specs.declared.piece.Direction.{Direction}
use Rattle.wl_recording.specs.declared.piece.Direction.TheVariants.{ToServer, ToClient}
use Rattle.wl_check.specs.Merged.{merged_within, cutting}
use Rattle.wl_check.specs.Places.{KnownAtPlace as Knows, known}
use Rattle.wl_check.specs.Session.{Judged, changes_at, judged_after, session_of}
use Rattle.wl_check.proofs.Examined.{known_first}
use Rattle.theory_connection.specs.World.{Row, Open, opening_world}
use Rattle.theory_connection.specs.Pair.{new_pair}
use Rattle.theory_connection.specs.Flight.{client_rows, row_of_entry, done as all_read}
use Rattle.theory_connection.specs.Stands.{birth_in}
use Rattle.theory_connection.specs.Meant.{IsAmongFirst, live_entry}
use Rattle.theory_connection.specs.World.{display_born}
use Rattle.theory_connection.proofs.PairAtOpening.{new_stands_by}
use Rattle.theory_recording.specs.Leads.{done}
use Rattle.theory_recording.specs.Recorded.{Recorded}
use Rattle.theory_recording.specs.Follows.{AllGoOn, KnownAs, Follows, knowledge, birth_places, places_of_making, entry_at}
use Rattle.theory_recording.specs.Linked.{Linked, linked, judgements}

-- if nothing was recorded, no message was judged
none_judged : (limit : ℕ) (tables : List Interface) → judgements limit tables [] ≡ []
unfolding merged_within judged_after
none_judged limit tables = refl

abbrev first_entry : Bool → Option Entry
first_entry b = cond b (Some (record { birth = 0; iface = display; version = 1; state = Live })) None

abbrev first_known : Knows
first_known = record {
  object = λ id. first_entry (nat_eq id 1);
  used = 1;
  server_used = 0;
  advertised_version = λ name iface. 0;
  taken = λ d. 0;
}

known_none : (limit : ℕ) (tables : List Interface) → first_known ≡ knowledge tables []
known_none limit tables =
    known_first tables (session_of limit []) first_known
    (record {
      objects = λ id. refl;
      used_is = refl;
      server_used_is = refl;
      advertised_is = λ n i. refl;
      taken_is = λ d. refl;
    })
    ∙ ap (λ (ms : List Judged). known (changes_at tables ms) 1) (none_judged limit tables)

-- at first there is one place for each maker
abbrev first : Maker → List ℕ
first by = 0 ∷ []

first_places : (tables : List Interface) → birth_places tables [] ≡ first
unfolding places_of_making
first_places tables = λ i by. each by i
  where
    each : (by : Maker) → birth_places tables [] by ≡ first by
    each Client = refl
    each Server = refl

first_row : (id : ℕ) (b : Bool) → first_entry b ≡ option_map (entry_at first)
    (option_map (row_of_entry id) (cond b (Some (live_entry display_born)) None))
first_row id true = refl
first_row id false = refl

-- the rows of a new client, whether it has a table of the server's range or not
abbrev opening_rows : Rows Row
opening_rows = client_rows (opening_view display true)

one_each : (by : Maker) → 0 < births_in opening_rows by
one_each Client = omega arith
one_each Server = omega arith

one_place : (by : Maker) → length (first by) ≡ births_in opening_rows by
one_place Client = refl
one_place Server = refl

first_below : (id : ℕ) (b : Bool) (r : Row)
    → option_map (row_of_entry id) (cond b (Some (live_entry display_born)) None) ≡ Some r
    → IsAmongFirst (births_in opening_rows) (birth_in r)
first_below id true r e =
    let same : Open (born_of_entry id (live_entry display_born)) ≡ r = cc e in
    subst (λ (x : Row). IsAmongFirst (births_in opening_rows) (birth_in x)) same
    (one_each (maker_of id))
first_below id false r e = absurd (cc e)

known_opening : KnownAs first_known first opening_rows
known_opening = record {
  objects = λ id. first_row id (nat_eq id 1) ∙ ap (λ (o : Option Entry). option_map (entry_at first)
      (option_map (row_of_entry id) o))
      (sym (look-opening display true id));
  used = refl;
  next = refl;
  births = one_place;
  below = λ id r e. first_below id (nat_eq id 1) r (ap (option_map (row_of_entry id)) (sym (look-opening display true id)) ∙ e);
  made_by = by_makers (opening_view display true);
}

none_go_on : AllGoOn []
none_go_on k one e = absurd (cc e)

follows_none : (limit : ℕ) (tables : List Interface) → Follows tables [] [] [] opening_rows []
follows_none limit tables = record {
  passed = none_go_on;
  here = opening_rows;
  known_as = subst (λ (k : Knows). KnownAs k (birth_places tables []) opening_rows)
      (known_none limit tables)
      (subst (λ (l : Maker → List ℕ). KnownAs first_known l opening_rows)
      (sym (first_places tables)) known_opening);
  joins = record { common = opening_rows; leads = done; reads = all_read };
  remembers = tt;
  tells = tt;
  binds = tt;
}

none_taken : (limit : ℕ) (tables : List Interface) (d : Direction)
    → 0 ≡ (knowledge tables (judgements limit tables [])).taken d
none_taken limit tables d = ap (λ (k : Knows). k.taken d) (known_none limit tables)
    ∙ ap (λ (ms : List Judged). (knowledge tables ms).taken d) (sym (none_judged limit tables))

none_recorded : (limit : ℕ) (tables : List Interface) (d : Direction) (sizes : Sizes) → sizes.limit.bytes ≡ limit
    → Recorded limit d [] (nothing_arrived sizes.in_bytes sizes.in_tokens sizes.limit)
    ((knowledge tables (judgements limit tables [])).taken d) []
unfolding cutting
none_recorded limit tables d sizes same = record {
  same_limit = same;
  part = [];
  sound = refl;
  rest = refl;
  waits = refl;
  tokens = let t = none_taken limit tables d in omega (arith, t);
}

-- a new pair is linked with the opening world
pub new_linked : (tables : List Interface) (client_sizes server_sizes : Sizes)
    → client_sizes.limit.bytes ≡ server_sizes.limit.bytes → Valid tables
    → Linked (new_pair tables client_sizes server_sizes) opening_world
new_linked tables client_sizes server_sizes one v = linked [] [] refl (record {
  stands = new_stands_by tables client_sizes server_sizes one v;
  requests = record {
    seen = [];
    later = [];
    is = refl;
    recorded = none_recorded server_sizes.limit.bytes tables ToServer server_sizes refl;
  };
  events = record {
    seen = [];
    later = [];
    is = refl;
    recorded = none_recorded server_sizes.limit.bytes tables ToClient client_sizes one;
  };
  follows = subst (λ (ms : List Judged). Follows tables ms [] [] opening_rows [])
      (sym (none_judged server_sizes.limit.bytes tables)) (follows_none server_sizes.limit.bytes tables);
  counted = tt;
})
