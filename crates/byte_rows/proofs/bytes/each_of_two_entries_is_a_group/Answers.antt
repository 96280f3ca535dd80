use Rattle.std.proofs.Common.{◌<◌, ◌^◌, [], ◌∷◌, length, refl, rules}
use Rattle.fp_model.specs.Spellings.{be16, be32, be64}
use Rattle.fp_model.specs.LogText.{IsEntry, FitsEntry, KeepsRules, HasSpelling, rest_text, body_text}
use Rattle.fp_rows.specs.Sample.{deposit, refusal}
use Rattle.byte_rows.proofs.bytes.each_of_two_entries_is_a_group.Goals as goal

deposit_is_entry : IsEntry deposit
deposit_is_entry = record {
  from = search rules;
  outcome = search rules;
  line = search rules;
  reply =
      search rules;
  notes = search rules;
  items = search rules;
}

deposit_fits : FitsEntry deposit
deposit_fits = record {
  outcome = search rules;
  line = search rules;
  reply = search rules;
  notes = search rules;
  items =
      search rules;
  each_item = search rules;
}

deposit_length : length (rest_text deposit) < 2 ^ 64
unfolding be16 be32 be64
deposit_length = search rules

deposit_body : length (body_text (deposit ∷ [])) < 2 ^ 64
unfolding be16 be32 be64
deposit_body = search rules

refusal_is_entry : IsEntry refusal
refusal_is_entry = record {
  from = search rules;
  outcome = search rules;
  line = search rules;
  reply =
      search rules;
  notes = search rules;
  items = search rules;
}

refusal_fits : FitsEntry refusal
refusal_fits = record {
  outcome = search rules;
  line = search rules;
  reply = search rules;
  notes = search rules;
  items =
      search rules;
  each_item = search rules;
}

refusal_length : length (rest_text refusal) < 2 ^ 64
unfolding be16 be32 be64
refusal_length = search rules

refusal_body : length (body_text (refusal ∷ [])) < 2 ^ 64
unfolding be16 be32 be64
refusal_body = search rules

pub returns-clause-deposit : goal.returns-clause-deposit
returns-clause-deposit c =
    let rules_kept : KeepsRules deposit = record { in_order = refl; parts = tt } in
    let spelled : HasSpelling deposit = record {
      is_entry = deposit_is_entry;
      fits = deposit_fits;
      whole =
          deposit_length;
      rules = rules_kept;
    } in
    record { some = search rules; each = (spelled, tt); fits = deposit_body }

pub returns-clause-refusal : goal.returns-clause-refusal
returns-clause-refusal c =
    let rules_kept : KeepsRules refusal = record { in_order = refl; parts = (refl, refl) } in
    let spelled : HasSpelling refusal = record {
      is_entry = refusal_is_entry;
      fits = refusal_fits;
      whole =
          refusal_length;
      rules = rules_kept;
    } in
    record { some = search rules; each = (spelled, tt); fits = refusal_body }
