-- What a checker knows after the messages that it has judged, and how that fits the ends.
use Rattle.std.specs.Prelude.{◌≡◌, ℕ, zero, suc, ◌+◌, ◌≤◌, if◌then◌else◌, true, false, List, []}
use Rattle.std.specs.Prelude.{◌∷◌, ◌++◌, length}
use Rattle.std.specs.Prelude.{map, get_or, slice_get, Option, Some, None, option_map}
use Rattle.std.specs.declared.result.Result.TheVariants.{Ok}
use Rattle.wl_wire.specs.declared.kind.Iface.{Iface}
use Rattle.wl_wire.specs.Argument.{Uint, Str}
use Rattle.wl_sigs.specs.Tables.{Interface, place_of}
use Rattle.wl_sigs.specs.Side.TheVariants.{Request, Event as event_side}
use Rattle.wl_object_map.specs.declared.object.Entry.{Entry}
use Rattle.wl_object_map.specs.declared.object.State.TheVariants as states
use Rattle.wl_objects.specs.Messages.{NewObject, is_bind}
use Rattle.wl_client.specs.declared.globals.Global.{Global}
use Rattle.wl_check.specs.Changes.{Call, first_number, is_global}
use Rattle.wl_check.specs.Places.{KnownAtPlace as Knows, known}
use Rattle.wl_check.specs.Session.{Judged, changes_at, ends_session}
use Rattle.wl_object_map.specs.declared.object.Maker.{Maker}
use Rattle.wl_object_map.specs.declared.object.Maker.TheVariants.{Client, Server}
use Rattle.wl_object_map.specs.Ranges.{first_server_id}
use Rattle.wl_object_map.specs.Objects.{maker_of}
use Rattle.theory_connection.specs.Meant.{IsAmongFirst, same_maker, Known, Message, Coming, Event}
use Rattle.theory_connection.specs.Meant.{Delete}
use Rattle.theory_connection.specs.Meant.{made_in, wire}
use Rattle.theory_connection.specs.World.{Row, Open, Ending, Each}
use Rattle.theory_connection.specs.Flight.{Rows, births_in, all_asks, all_tells}
use Rattle.theory_connection.specs.Stands.{birth_in, by_event}
use Rattle.theory_recording.specs.Leads.{Joins}

-- a message keeps all rules, and the session goes on
pub record GoesOn (judged : Judged) : Type 0 where
  pub call : Call
  pub is : judged ≡ Ok call
  pub goes_on : ends_session judged ≡ false

abbrev pub AllGoOn : List Judged → Type 0
AllGoOn judged = (k : ℕ) (one : Judged) → slice_get judged k ≡ Some one → GoesOn one

-- what is known after messages, each judged at its place
abbrev pub knowledge : List Interface → List Judged → Knows
knowledge tables judged = known (changes_at tables judged) (suc (length judged))

-- the place, if the message there makes an object of this maker; else none
abbrev pub place_of_making : Maker → Option NewObject → ℕ → List ℕ
place_of_making by None place = []
place_of_making by (Some new) place =
    if same_maker (maker_of new.id) by then place ∷ [] else []

-- What comes before the first place: for the server a 0, since its births begin at 1.
abbrev pub place_before : Maker → List ℕ
place_before Client = []
place_before Server = 0 ∷ []

-- The places of the messages that make an object of this maker, by births. The client's birth 0 is
-- wl_display, which is made at place 0; its birth b is made by the b-th request that makes an
-- object. The server's birth b is made by the b-th event that makes one.
unfoldable pub places_of_making : (ℕ → Option NewObject) → ℕ → Maker → List ℕ
places_of_making made zero by = place_before by
places_of_making made (suc place) by =
    places_of_making made place by ++ place_of_making by (made place) place

-- the same after these judged messages
abbrev pub birth_places : List Interface → List Judged → Maker → List ℕ
birth_places tables judged =
    places_of_making (λ place. (changes_at tables judged place).made) (suc (length judged))

-- an object as the checker has it: its birth is the place of the message that made it
abbrev pub entry_at : (Maker → List ℕ) → Row → Entry
entry_at birth_places (Open x) = record {
  birth = get_or (birth_places x.birth.maker) x.birth.number 0;
  iface = x.iface;
  version = x.version;
  state = states.Live;
}
entry_at birth_places (Ending x) = record {
  birth = get_or (birth_places x.birth.maker) x.birth.number 0;
  iface = x.iface;
  version = x.version;
  state = states.Zombie;
}

-- The checker knows exactly these rows, in both ranges of ids, and what was counted there.
pub record KnownAs (k : Knows) (birth_places : Maker → List ℕ) (here : Rows Row) : Type 0 where
  pub objects : (id : ℕ) → k.object id ≡ option_map (entry_at birth_places) (here.rows id)
  pub used : k.used ≡ here.used
  pub next : first_server_id + k.server_used ≡ here.by_server.next
  pub births : (by : Maker) → length (birth_places by) ≡ births_in here by
  pub below : (id : ℕ) (r : Row) → here.rows id ≡ Some r
      → IsAmongFirst (births_in here) (birth_in r)
  pub made_by : (id : ℕ) (r : Row) → here.rows id ≡ Some r → (birth_in r).maker ≡ maker_of id

-- ---- globals

-- a recorded event advertised at least this version of a global
abbrev pub IsAdvertised : Knows → ℕ → ℕ → ℕ → Type 0
IsAdvertised k name iface version = version ≤ k.advertised_version name iface

-- the same for the global in a `global` event, if its interface is in the tables
abbrev pub TellsAdvertised : List Interface → Knows → Coming Known → Type 0
TellsAdvertised tables k (Event m) = is_global event_side m.target.born.iface m.opcode ≡ true
    → (name version : ℕ) (text : List ℕ) (iface : Iface)
    → map wire m.args ≡ Uint name ∷ Str (Some text) ∷ Uint version ∷ []
    → place_of tables text ≡ Some iface → IsAdvertised k name iface.0 version
TellsAdvertised tables k (Delete x) = Unit {0}

-- the same for the global of a bind
abbrev pub BindsAdvertised : Knows → Message Known → Type 0
BindsAdvertised k m = is_bind Request m.target.born.iface m.opcode ≡ true
    → (name : ℕ) (x : Known) → first_number (map wire m.args) ≡ Some name → made_in m.args ≡ Some x
    → IsAdvertised k name x.born.iface.0 x.born.version

-- ---- all of it

-- These requests were written and are not yet recorded. These events were recorded, and the client,
-- which has these rows and remembers these globals, has not read them yet. None of the judged
-- messages breaks a rule or is wl_display.error. From the rows that the checker knows, the requests
-- lead to the same rows to which the events lead the client. Each global that the client remembers,
-- will read about or binds was advertised in a recorded event.
pub record Follows (tables : List Interface) (judged : List Judged)
    (asked_later : List (Message Known)) (told_seen : List (Coming Known)) (client : Rows Row)
    (remembered : List Global) : Type 0 where
  pub passed : AllGoOn judged
  pub here : Rows Row
  pub known_as : KnownAs (knowledge tables judged) (birth_places tables judged) here
  pub joins : Joins (by_event tables) (all_asks asked_later) (all_tells told_seen) here client
  pub remembers : Each (λ g. IsAdvertised (knowledge tables judged) g.name g.iface.0 g.version)
      remembered
  pub tells : Each (TellsAdvertised tables (knowledge tables judged)) told_seen
  pub binds : Each (BindsAdvertised (knowledge tables judged)) asked_later
