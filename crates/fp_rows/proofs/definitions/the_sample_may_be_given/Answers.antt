use Rattle.std.proofs.Common.{ℕ, zero, suc, ◌≤◌, codes, refl, sym, ap, rules, false, inl, inr, arith}
use Rattle.std.specs.Prelude.{pos}
use Rattle.std.specs.Option.{option_map_or}
use Rattle.fp_model.specs.declared.definitions.SegDef.{SegDef}
use Rattle.std.specs.List.{Contains, IsDistinct}
use Rattle.fp_model.specs.WellFormed.{AreGroups, IsLayout, IsLoaded, IsMsdbDef, IsSegDef, IsAreaDef, IsDedbDef, AreDefs}
use Rattle.fp_rows.specs.Sample.{sample_defs, accts, tellers, cust, customer, audit, loan}
use Rattle.fp_rows.proofs.definitions.the_sample_may_be_given.Goals as goal

are_groups : AreGroups sample_defs.regions
are_groups = (search rules, one)
  where
    one : (group greatest : ℕ) → Contains sample_defs.regions greatest → 1 ≤ group → group ≤ greatest
        → Contains sample_defs.regions group
    one group greatest (zero, less, is) low high = (0, search rules, omega (arith, is, low, high))
    one group greatest (suc zero, less, is) low high = (0, search rules, omega (arith, is, low, high))
    one group greatest (suc (suc i), less, is) low high = absurd (omega (arith, less))

accts_layout : IsLayout accts.fields 8
unfolding IsDistinct
accts_layout = record {
  count = search rules;
  stand = search rules;
  names = (
    ((codes "ACCT", search rules, refl), refl, refl, refl),
    (((codes "BAL", search rules, refl), refl, refl, refl), tt),
  );
  distinct = search rules;
}

tellers_layout : IsLayout tellers.fields 8
unfolding IsDistinct
tellers_layout = record {
  count = search rules;
  stand = search rules;
  names = (
    ((codes "TNO", search rules, refl), refl, refl, refl),
    (((codes "CASH", search rules, refl), refl, refl, refl), tt),
  );
  distinct = search rules;
}

customer_layout : IsLayout customer.fields 16
unfolding IsDistinct
customer_layout = record {
  count = search rules;
  stand = search rules;
  names = (
    ((codes "CNO", search rules, refl), refl, refl, refl),
    (((codes "NAME", search rules, refl), refl, refl, refl), tt),
  );
  distinct = search rules;
}

audit_layout : IsLayout audit.fields 8
unfolding IsDistinct
audit_layout = record {
  count = search rules;
  stand = search rules;
  names = (((codes "WHAT", search rules, refl), refl, refl, refl), tt);
  distinct = search rules;
}

loan_layout : IsLayout loan.fields 6
unfolding IsDistinct
loan_layout = record {
  count = search rules;
  stand = search rules;
  names = (
    ((codes "LNO", search rules, refl), refl, refl, refl),
    (((codes "DUE", search rules, refl), refl, refl, refl), tt),
  );
  distinct = search rules;
}

is_accts : IsMsdbDef accts
unfolding IsDistinct
is_accts = record {
  name = (codes "ACCTS", search rules, refl);
  layout = accts_layout;
  key = search rules;
  short = search rules;
  loaded = (
    record { whole = refl; fields = (search rules, ((pos 100, refl), tt)) },
    (record { whole = refl; fields = (search rules, ((pos 50, refl), tt)) }, tt),
  );
  keys = search rules;
}

is_tellers : IsMsdbDef tellers
unfolding IsDistinct
is_tellers = record {
  name = (codes "TELLERS", search rules, refl);
  layout = tellers_layout;
  key = search rules;
  short = search rules;
  loaded = (record { whole = refl; fields = (search rules, ((pos 0, refl), tt)) }, tt);
  keys = search rules;
}

is_customer : IsSegDef cust.segments customer
is_customer = record {
  name = ((codes "CUSTOMER", search rules, refl), refl);
  layout = customer_layout;
  key = inr (refl, search rules);
  parent = search rules;
}

is_audit : IsSegDef cust.segments audit
is_audit = record {
  name = ((codes "AUDIT", search rules, refl), refl);
  layout = audit_layout;
  key = inl refl;
  parent = λ p is. sym (ap (λ o. option_map_or (λ (def : SegDef). def.sequential) o false) is);
}

is_loan : IsSegDef cust.segments loan
is_loan = record {
  name = ((codes "LOAN", search rules, refl), refl);
  layout = loan_layout;
  key = inr (refl, search rules);
  parent = λ p is. sym (ap (λ o. option_map_or (λ (def : SegDef). def.sequential) o false) is);
}

is_cust : IsDedbDef cust
unfolding IsDistinct
is_cust = record {
  name = (codes "CUST", search rules, refl);
  size = search rules;
  types = search rules;
  places = (
    (tt, (λ e. refl), (λ e. refl), λ e. absurd (grind (arith, e))),
    (
      (search rules, (λ e. absurd (grind (arith, e))), (λ e. absurd (grind (arith, e))), λ e. (refl, refl)),
      (
        (
          search rules,
          (λ e. absurd (grind (arith, e))),
          (λ e. absurd (grind (arith, e))),
          λ e. absurd (grind (arith, e)),
        ),
        tt,
      ),
    ),
  );
  each_type = (is_customer, (is_audit, (is_loan, tt)));
  type_names = search rules;
  levels = (search rules, (search rules, (search rules, tt)));
  fits = search rules;
  areas = search rules;
  each_area = (
    record {
      name = (codes "AREA1", search rules, refl);
      uows = search rules;
      base = search rules;
      overflow = search rules;
      capacity = search rules;
      copies = search rules;
    },
    (
      record {
        name = (codes "AREA2", search rules, refl);
        uows = search rules;
        base = search rules;
        overflow = search rules;
        capacity = search rules;
        copies = search rules;
      },
      tt,
    ),
  );
  anchors = search rules;
}

pub returns : goal.returns
unfolding IsDistinct
returns c = record {
  regions = search rules;
  groups = are_groups;
  log_group = search rules;
  pool = search rules;
  tries = search rules;
  msdbs = search rules;
  each_msdb = (is_accts, (is_tellers, tt));
  dedbs = search rules;
  each_dedb = (is_cust, tt);
  names = search rules;
  area_names = search rules;
  intervals = search rules;
  text = search rules;
}
