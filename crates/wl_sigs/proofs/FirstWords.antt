-- Among a text's own interfaces, the broken line that is found is the first that breaks a rule, in
-- the words of the rules, and its rule is the lowest that it breaks.
use Rattle.std.proofs.Common.{◌≡◌, ℕ, ◌+◌, List, length, map, refl, sym, ap, ◌∙◌, subst, Some}
use Rattle.std.specs.Prelude.{option_map}
use Rattle.wl_sigs.specs.Tables.{MessageSignature, Interface, interface_at, message_of}
use Rattle.wl_text.specs.Text.{WrittenInterface}
use Rattle.wl_sigs.specs.Joined.{all_names, first_place, joined}
use Rattle.wl_sigs.specs.Broken.{ended_of, first_broken}
use Rattle.wl_sigs.specs.FirstBroken.{written_of, InterfaceBreaks, MessageBreaks, BreaksRule}
use Rattle.wl_sigs.specs.FirstBroken.{by_interface, by_message}
use Rattle.std.proofs.lemmas.Option.{slice_get-map}
use Rattle.wl_sigs.proofs.JoinedLookup.{placing, placing_message, placed_messages}
use Rattle.wl_sigs.proofs.ValidKeeps.{placed_at}
use Rattle.wl_sigs.proofs.FirstLine.{Tested, interface_tests, message_tests, Declares, an_interface}
use Rattle.wl_sigs.proofs.FirstLine.{a_message, Breaks, ByTests, IsLeast, like, first_tested}
use Rattle.wl_sigs.proofs.TestedRules.{interface_says, message_says}

-- a test that fails at a line shows that the line breaks its rule
in_words : (tables : List Interface) (written : List WrittenInterface) (line rule : ℕ) (tests : List Tested)
    → Declares tables written line tests → Breaks tests rule → BreaksRule tables written line rule
in_words tables written line rule tests (an_interface k w at is tests_are) breaks =
    by_interface (length tables + k) (placing tables written w)
    (record { index = k; own = w; at = at; line_is = is; place_is = refl; stands = placed_at tables written k w at })
    ((interface_says tables written k w at).to rule (subst (λ (t : List Tested). Breaks t rule) tests_are breaks))
in_words tables written line rule tests (a_message k w side o m at found is tests_are) breaks =
    by_message (length tables + k) (placing tables written w) side o (placing_message tables written m)
    (record {
      index = k;
      owner = w;
      own = m;
      at = at;
      of = found;
      line_is = is;
      place_is = refl;
      stands = placed_at tables written k w at;
      listed = rw (placed_messages tables written side w)
          (slice_get-map (placing_message tables written) (written_of side w) o
          ∙ ap (option_map (placing_message tables written)) found);
    })
    ((message_says tables written w side o m found).to rule
    (subst (λ (t : List Tested). Breaks t rule) tests_are breaks))

pub some_same : {X : Type 0} (x y : X) → Some x ≡ Some y → x ≡ y
some_same x y e = cc e

by_tests : (tables : List Interface) (written : List WrittenInterface) (line rule : ℕ)
    → BreaksRule tables written line rule → ByTests tables written line rule
by_tests tables written line rule (by_interface place i d breaks) =
    let at : interface_at (joined tables written) place ≡ Some (placing tables written d.own) =
    rw d.place_is (placed_at tables written d.index d.own d.at) in
    let same : i ≡ placing tables written d.own = some_same i (placing tables written d.own) (sym d.stands ∙ at) in
    let here : InterfaceBreaks (joined tables written) (length tables + d.index) (placing tables written d.own) rule =
    subst (λ (x : Interface). InterfaceBreaks (joined tables written) (length tables + d.index) x rule) same
    (subst (λ (p : ℕ). InterfaceBreaks (joined tables written) p i rule) d.place_is breaks) in
    record {
      tests = interface_tests (first_place (all_names tables written)) (length tables + d.index) d.own;
      declares = an_interface d.index d.own d.at d.line_is refl;
      breaks = (interface_says tables written d.index d.own d.at).from rule here;
    }
by_tests tables written line rule (by_message place i side o m d breaks) =
    let at : interface_at (joined tables written) place ≡ Some (placing tables written d.owner) =
    rw d.place_is (placed_at tables written d.index d.owner d.at) in
    let same : i ≡ placing tables written d.owner = some_same i (placing tables written d.owner) (sym d.stands ∙ at) in
    let listed : message_of side o (placing tables written d.owner) ≡ Some m =
    subst (λ (x : Interface). message_of side o x ≡ Some m) same d.listed in
    let found : message_of side o (placing tables written d.owner) ≡ Some (placing_message tables written d.own) =
    rw (placed_messages tables written side d.owner)
    (slice_get-map (placing_message tables written) (written_of side d.owner) o
    ∙ ap (option_map (placing_message tables written)) d.of) in
    let same_message : m ≡ placing_message tables written d.own =
    some_same m (placing_message tables written d.own) (sym listed ∙ found) in
    let here : MessageBreaks (joined tables written) (placing tables written d.owner) side o
    (placing_message tables written d.own) rule =
    subst (λ (x : MessageSignature). MessageBreaks (joined tables written) (placing tables written d.owner) side o x
    rule)
    same_message
    (subst (λ (x : Interface). MessageBreaks (joined tables written) x side o m rule) same breaks) in
    record {
      tests = message_tests (first_place (all_names tables written)) (ended_of tables written) d.owner side
          (first_place (map (λ n. n.name) (written_of side d.owner))) o d.own;
      declares = a_message d.index d.owner side o d.own d.at d.of d.line_is refl;
      breaks = (message_says tables written d.owner side o d.own d.of).from rule here;
    }

-- the first broken line of the text's own interfaces
pub declared_least : (tables : List Interface) (written : List WrittenInterface)
    → IsLeast (BreaksRule tables written) (first_broken tables written)
declared_least tables written =
    like (ByTests tables written) (BreaksRule tables written)
    (λ line rule by. in_words tables written line rule by.tests by.declares by.breaks)
    (λ line rule breaks. by_tests tables written line rule breaks) (first_broken tables written)
    (first_tested tables written)
