pub mod PeriodTestsTable
