-- An event that the checker accepts, and the message that the checker reads it as.
use Rattle.std.specs.Prelude.{◌≡◌, ℕ, ◌<◌, ◌≤◌, false, nat_eq, if◌then◌else◌, List, [], ◌∷◌, length}
use Rattle.std.specs.Prelude.{Option, Some, None, option_map}
use Rattle.std.specs.List.{All}
use Rattle.std.specs.declared.result.Result.TheVariants.{Ok}
use Rattle.wl_wire.specs.declared.kind.Kind.{Kind}
use Rattle.wl_wire.specs.Argument.{Argument, reshaped}
use Rattle.wl_sigs.specs.Side.TheVariants.{Event as event_side}
use Rattle.wl_sigs.specs.Tables.{Interface}
use Rattle.wl_message.specs.Cut.{greatest_limit}
use Rattle.wl_object_map.specs.declared.object.Maker.{Maker}
use Rattle.wl_object_map.specs.declared.object.Maker.TheVariants.{Server}
use Rattle.wl_object_map.specs.Ranges.{is_of_server}
use Rattle.wl_object_map.specs.View.{max_births}
use Rattle.wl_objects.specs.Messages.{NewObject, is_error, made_by}
use Rattle.wl_recording.specs.declared.piece.Direction.TheVariants.{ToClient}
use Rattle.wl_check.specs.Changes.{Call, changes}
use Rattle.wl_check.specs.Deserved.{Deserved}
use Rattle.wl_check.specs.Merged.{span, framed}
use Rattle.wl_check.specs.Places.{KnownAtPlace as Knows}
use Rattle.wl_check.specs.Rules.{if_open, judged}
use Rattle.wl_check.specs.Session.{Judged}
use Rattle.theory_connection.specs.Meant.{server_birth, Known, Message, Arg, ended_by}
use Rattle.theory_connection.specs.World.{display_born}
use Rattle.theory_recording.specs.Follows.{birth_places, knowledge}
use Rattle.theory_peers.specs.AcceptedRequest.{known_by_place}

-- the object that an argument's id names, open or ending; none for 0
abbrev pub named_held : (Maker → List ℕ) → Knows → ℕ → Option Known
named_held birth_places k id =
    if nat_eq id 0 then None
    else option_map (known_by_place birth_places id) (k.object id)

-- A new object of the server: its interface and version are as the message says, and its birth is
-- the server's next. (In an accepted event the message says both.)
abbrev pub new_told : (Maker → List ℕ) → Option NewObject → ℕ → Known
new_told birth_places None id = record { id = id; born = display_born }
new_told birth_places (Some new) id = record {
  id = id;
  born = record {
    birth = server_birth (length (birth_places Server));
    iface = new.iface;
    version = new.version;
  };
}

-- An argument as it is meant. A checker sees no descriptors: each token is 0.
abbrev pub meant_event_arg : List Interface → (Maker → List ℕ) → Knows → ℕ → Kind → Argument
    → Arg Known
meant_event_arg tables birth_places k version kind value =
    reshaped (named_held birth_places k)
    (new_told birth_places (made_by tables version kind value)) (λ _. 0) value

abbrev pub meant_event_args : List Interface → (Maker → List ℕ) → Knows → ℕ → List Kind
    → List Argument → List (Arg Known)
meant_event_args tables birth_places k version (kind ∷ ks) (value ∷ values) =
    meant_event_arg tables birth_places k version kind value
    ∷ meant_event_args tables birth_places k version ks values
meant_event_args tables birth_places k version _ _ = []

-- the message that a checker reads an event as, if it knows this and these are the places of births
abbrev pub meant_event : List Interface → (Maker → List ℕ) → Knows → Call → Message Known
meant_event tables birth_places k call =
    let r = call.received in
    let target = known_by_place birth_places r.target.id r.entry in
    let args = meant_event_args tables birth_places k r.entry.version r.signature.kinds r.values in
    record {
      target = target;
      opcode = call.opcode;
      args = args;
      ends = ended_by r.signature.destroys target args;
    }

-- What a server wrote, as a checker reads it: an event, and the object that it takes back, if it is
-- the delete_id of one.
pub record ServerMessage : Type 0 where
  pub event : Message Known
  pub takes_back : Option Known

-- The object that a delete_id of this id takes back. For an id of the server it takes back none.
abbrev pub object_taken : (Maker → List ℕ) → Knows → Option ℕ → Option Known
object_taken birth_places k None = None
object_taken birth_places k (Some id) =
    if is_of_server id then None
    else option_map (known_by_place birth_places id) (k.object id)

-- what an event is read as after these judged messages
abbrev pub told_as : List Interface → List Judged → Call → ServerMessage
told_as tables e call = record {
  event = meant_event tables (birth_places tables e) (knowledge tables e) call;
  takes_back =
      object_taken (birth_places tables e) (knowledge tables e) (changes tables call).deleted;
}

-- The new object's id is not that of an open object. (The rules let an event replace an open object
-- that no request can end. A request that names the old one may be on its way.)
abbrev pub ReplacesNone : Knows → Option NewObject → Type 0
ReplacesNone k None = Unit {0}
ReplacesNone k (Some new) = if_open (k.object new.id) ≡ None

-- The checker accepts the event at a place of the stream to the client, after these judged
-- messages, and the session goes on after it: it is not wl_display.error. A delete_id is deserved,
-- and a new object replaces no open one. The stream consists of bytes, the size fits in a header,
-- and the server has made fewer objects than an end can count.
pub record IsAcceptedEvent (limit : ℕ) (tables : List Interface) (e : List Judged)
    (call : Call) : Type 0
  where
    pub stream : List ℕ
    pub bytes : All (λ b. b < 256) stream
    pub place : ℕ
    pub size : ℕ
    pub short : size ≤ greatest_limit
    pub tokens : ℕ
    pub is : judged limit tables (knowledge tables e) stream
        (framed ToClient tokens (span place size)) ≡ Ok call
    pub goes_on : is_error event_side call.received.entry.iface call.opcode ≡ false
    pub deserved : (id : ℕ) → (changes tables call).deleted ≡ Some id
        → Deserved tables (knowledge tables e) id
    pub replaces : ReplacesNone (knowledge tables e) (changes tables call).made
    pub few : length (birth_places tables e Server) < max_births
