use Rattle.std.proofs.Common.{◌≡◌, refl, rules, arith, ◌<◌, List, [], ◌∷◌, length, true, ◌==◌, eqb-true}
use Rattle.std.specs.Prelude.{◌^◌}
use Rattle.fp_model.specs.declared.definitions.DedbDef.{DedbDef}
use Rattle.txn_lang.proofs.Fitting.{all_are_cheap, what_was_read_fits}
use Rattle.command_tasks.proofs.parts.setup_with.Goals as goal

none_of : (dedbs : List DedbDef) → (length dedbs == 0) ≡ true → dedbs ≡ []
none_of [] e = refl
none_of (dedb ∷ dedbs) e = let zero : length (dedb ∷ dedbs) ≡ 0 = eqb-true _ _ e in absurd (omega (arith, zero))

pub returns-clause-setup : goal.returns-clause-setup
returns-clause-setup c =
    let defs : c.in_ok-copy.field-0 ≡ c.args.defs.text = grind rules in
    let scripts : c.in_ok-from_slice.field-0 ≡ c.args.scripts.text = grind rules in
    let none : c.args.defs.dedbs ≡ [] = none_of c.args.defs.dedbs c.requires.built in
    let long : length c.args.defs.text < 2 ^ 32 = search rules in
    let short : length c.args.scripts.text < 2 ^ 32 = search rules in
    record {
      are = c.requires.are;
      no_dedbs = none;
      scripts = c.requires.scripts;
      fit = what_was_read_fits c.args.defs none c.args.scripts.text c.args.scripts.scripts c.requires.scripts;
      cheap = all_are_cheap [] c.args.scripts.scripts c.requires.scripts.fair;
      front = rw (defs, scripts) refl;
      fits = rw (defs, scripts) (record { is_format = (1, omega arith, refl); defs_fit = long; scripts_fit = short });
    }
